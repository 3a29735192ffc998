-- Where there is no memory to read the arguments, whatever they ask for ends with the status of that, and all is left as it was.
use Rattle.std.proofs.Common.{◌≡◌, Option, Some, None, IfSome, inr, refl, arith}
use Rattle.sc_arguments.specs.declared.asked.Script.{Script}
use Rattle.sc_arguments.specs.declared.asked.Server.{Server}
use Rattle.sc_arguments.specs.declared.asked.Demo.{Demo}
use Rattle.sc_server.specs.Reports as serving
use Rattle.sc_server.specs.Serving.{Front, AreGivenAndBack, WritesNothing, EndsServer, IsEnd}
use Rattle.sc_server.proofs.FrontLemmas.{none_given_and_back}
use Rattle.sc_demo.specs.Making.{MakerReports}
use Rattle.sc_demo.specs.Demos as demos
use Rattle.solr_split.specs.Scripts.{CrewReports, Beside, EndsScript, LendsNone}

-- what is so of each is so of one, where there is one
pub so_of_one : {A : Type 0} (P : A → Type 0) → ((one : A) → P one) → (option : Option A) → IfSome option P
so_of_one P each (Some one) = each one
so_of_one P each None = tt

module _ {C H P L : Type 0} where
  none_lent : (front : Front C H P L) → LendsNone front front
  none_lent front = record { crews = refl; crews_back = refl; out = λ number. refl; open_faults = refl; opened = refl }

  none_given : (front : Front C H P L) → AreGivenAndBack front front 0
  none_given front = none_given_and_back front front refl refl (λ number. refl)

  nothing_written : (front : Front C H P L) → WritesNothing front front
  nothing_written front = record { written = refl; write_faults = refl }

  pub script_without_memory : (reports : CrewReports C H P) (beside : Beside C H P L) (untouched : Type 0) → untouched → (script : Script) → EndsScript script reports beside beside untouched 6
  script_without_memory reports beside untouched is script = inr (refl, is, none_lent beside.front)

  pub server_without_memory : {S W : Type 0} (reports : serving.Reports C H P L S W) (front : Front C H P L) (server : Server) → EndsServer reports server front front 6
  server_without_memory reports front server = record {
    end = IsEnd.no_memory (record {
      count = 0;
      at_most = omega arith;
      crews = none_given front;
      unused = λ number from below. absurd (omega (arith, below));
      open_faults = refl;
      silent = nothing_written front;
    });
    write_fault = (λ e. absurd (omega (arith, e)), λ more. absurd (omega (arith, more)));
    host_fault = λ e. absurd (omega (arith, e));
    accept_fault = λ e. absurd (omega (arith, e));
    open_fault = λ more. absurd (omega (arith, more));
  }

  pub demo_without_memory : (reports : MakerReports C H P) (front : Front C H P L) (demo : Demo) → demos.EndsDemo reports demo front front 6
  demo_without_memory reports front demo = record {
    end = demos.IsDemoEnd.no_memory (record {
      count = 0;
      at_most = omega arith;
      crews = none_given front;
      open_faults = refl;
      silent = nothing_written front;
    });
    write_fault = (λ e. absurd (omega (arith, e)), λ more. absurd (omega (arith, more)));
    host_fault = λ e. absurd (omega (arith, e));
  }
