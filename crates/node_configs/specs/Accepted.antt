-- Inputs that are accepted.
pub use Rattle.lab_setup.specs.Accepted.{IsAccepted}
