pub mod NumberLaws
pub mod Lengths
pub mod RoundTrip
pub mod EmptyImage
pub mod KindNumbers
