pub mod FromLoaded
