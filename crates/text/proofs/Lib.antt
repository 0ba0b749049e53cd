pub mod Puts
pub mod Agreement
pub mod Rooms
pub mod Solutions
pub mod Scripts
pub mod Programs
