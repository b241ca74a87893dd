pub mod Numbers
pub mod Layouts
pub mod Again
pub mod Anew
pub mod Ends
