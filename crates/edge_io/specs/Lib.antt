pub mod Buffered
pub mod Causes
pub mod Files
pub mod Injection
pub mod Memory
pub mod Outside
pub mod Exposed
