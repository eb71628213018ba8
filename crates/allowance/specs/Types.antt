-- The types of this crate, which src/lib.rt declares
pub use Rattle.allowance.specs.declared.Quota.{Quota}
pub use Rattle.allowance.specs.declared.Allowance.{Allowance}
