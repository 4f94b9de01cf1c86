pub mod CoreLaws
