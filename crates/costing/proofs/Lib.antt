pub mod StepLaws
pub mod CostsHeld
