pub mod ArgumentsLaws
pub mod HexLaws
