pub mod Beyond
pub mod Lanes
pub mod Records
pub mod Loans
