pub mod ImageLaws
pub mod ReadLaws
pub mod SearchLaws
