pub mod Cut
pub mod Goes
pub mod Monitored
