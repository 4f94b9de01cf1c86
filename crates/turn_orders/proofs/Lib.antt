pub mod GeneratorLaws
pub mod Schedulers
