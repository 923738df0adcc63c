pub mod RotateLaws
