pub mod Rasters
pub mod RasterLaws
pub mod Lawfulness
pub mod Stepping
pub mod Operations
pub mod Inward
