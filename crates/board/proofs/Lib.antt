pub mod InTwo
pub mod InOrder
pub mod Replied
pub mod Held
pub mod Cases
pub mod Refused
pub mod Calls
