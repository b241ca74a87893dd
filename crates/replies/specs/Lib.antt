-- the answer to the caller
pub mod Wrote
-- what a writer of bytes has done
pub mod Put
-- laws on that
pub mod Writers
