pub mod LeafIndexLaws
pub mod PassesHeld
