pub mod Kills
