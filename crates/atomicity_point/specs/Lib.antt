pub mod Txn
