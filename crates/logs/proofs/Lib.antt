-- Laws that the proofs of this crate cite
-- a line
pub mod RestLaws
pub mod RequestPlace
-- numerals
pub mod NumberLaws
pub mod RunLaws
-- pairs and tickets
pub mod DecimalLaws
pub mod TextLaws
-- ticks
pub mod ReceiveLaws
