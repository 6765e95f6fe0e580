pub mod Made
pub mod Least
pub mod ByNumber
pub mod KindNumbers
