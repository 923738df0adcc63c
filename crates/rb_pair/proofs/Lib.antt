pub mod HeldLaws
pub mod LegalLaws
pub mod ActLaws
pub mod PairLaws
