pub mod DecimalLaws
pub mod JoinedFields
pub mod RoundTrip
pub mod WrittenValues
