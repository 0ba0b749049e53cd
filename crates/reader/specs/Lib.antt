pub mod Grammar
pub mod Said
pub mod Judged
pub mod Held
pub mod FirstFault
