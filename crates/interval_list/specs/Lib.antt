pub mod WaitingList
