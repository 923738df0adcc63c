mod CutLaws
mod IdLaws
mod MapLaws
mod NextLaws
mod TakeLaws
mod StatusLaws
