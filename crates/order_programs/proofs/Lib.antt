pub mod ThreeRules
mod Numbers
mod Programs
mod Passing
