-- Which statuses a demonstration never ends with.
use Rattle.std.proofs.Common.{◌≢◌, ℕ, arith}
use Rattle.sc_arguments.specs.declared.asked.Demo.{Demo}
use Rattle.sc_server.specs.Serving.{Front}
use Rattle.sc_demo.specs.Making.{MakerReports}
use Rattle.sc_demo.specs.Demos.{IsDemoEnd}

module _ {C H P L : Type 0} (reports : MakerReports C H P) (demo : Demo) (before after : Front C H P L) where
  -- its status is not that of arguments that ask for nothing, nor that of a source that failed
  pub not_refused_or_read : {status : ℕ} → IsDemoEnd reports demo before after status → (status ≢ 2) × (status ≢ 4)
  not_refused_or_read (IsDemoEnd.no_memory out) = (omega arith, omega arith)
  not_refused_or_read (IsDemoEnd.host_fails fails) = (omega arith, omega arith)
  not_refused_or_read (IsDemoEnd.lines_fail fails) = (omega arith, omega arith)
  not_refused_or_read (IsDemoEnd.tells told) = (omega arith, omega arith)
