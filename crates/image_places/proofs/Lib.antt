pub mod Search
pub mod WalkSteps
pub mod Laying
pub mod PlaceSteps
pub mod Laws
pub mod Kept
