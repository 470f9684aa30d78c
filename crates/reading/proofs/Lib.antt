pub mod FrontLaws
