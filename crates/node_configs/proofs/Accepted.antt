-- What is known of an input that was accepted.
pub use Rattle.lab_setup.proofs.Accepted.{HasFew, few, is_setup, is_alone, writable}
