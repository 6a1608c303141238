pub mod Laws
pub mod Lists
pub mod Tests
pub mod Prelude
