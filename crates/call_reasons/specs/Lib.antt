pub mod Found
pub mod Files
pub mod Blame
pub mod Verdict
pub mod Accesses
pub mod Reason
pub mod Notes
pub mod Noted
