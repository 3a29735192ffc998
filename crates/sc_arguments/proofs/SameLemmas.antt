-- The same options in another order ask for the same.
use Rattle.std.proofs.Common.{◌≡◌, ℕ, Bool, true, false, ◌&&◌, List, Option, Some, None, cond, refl, ap}
use Rattle.std.specs.Prelude.{codes, option_map}
use Rattle.std.specs.List.Sorted.{IsPermutation}
use Rattle.std.specs.Str.{bytes_eq}
use Rattle.std.proofs.lemmas.List.Sorted.{IsPermutation-sym}
use Rattle.sc_collection.specs.Shapes.{is_shape}
use Rattle.sc_arguments.specs.declared.asked.Asked.TheVariants as asking
use Rattle.sc_arguments.specs.declared.asked.Script.{Script}
use Rattle.sc_arguments.specs.declared.asked.Server.{Server}
use Rattle.sc_arguments.specs.declared.asked.Demo.{Demo}
use Rattle.sc_arguments.specs.declared.command.Command.TheVariants as commands
use Rattle.sc_arguments.specs.Options.{Setting, settings, number_given, are_options}
use Rattle.sc_arguments.specs.Arguments.{option_names, script_of, server_of, demo_of, is_server, is_demo, script_by, server_by, demo_by}
use Rattle.sc_arguments.specs.Laws.{AskTheSameInAnyOrder}
use Rattle.sc_arguments.proofs.OrderLemmas.{each_once, same_options, same_number}

-- the options have the same numbers
abbrev HaveSameNumbers : (given other : List Setting) → Type 0
HaveSameNumbers given other = (name : List ℕ) → number_given name given ≡ number_given name other

same_scripts : (given other : List Setting) → HaveSameNumbers given other → script_of given ≡ script_of other
same_scripts given other same =
    rw (same (codes "--nodes")) (rw (same (codes "--shards")) (rw (same (codes "--replicas")) (rw (same (codes "--buckets"))
    (rw (same (codes "--log-limit")) (rw (same (codes "--clock")) refl)))))

same_servers : (given other : List Setting) → HaveSameNumbers given other → server_of given ≡ server_of other
same_servers given other same =
    rw (same (codes "--nodes")) (rw (same (codes "--shards")) (rw (same (codes "--replicas")) (rw (same (codes "--buckets"))
    (rw (same (codes "--log-limit")) (rw (same (codes "--clock")) (rw (same (codes "--port")) (rw (same (codes "--workers"))
    (rw (same (codes "--max-connections")) refl))))))))

same_demos : (given other : List Setting) → HaveSameNumbers given other → demo_of given ≡ demo_of other
same_demos given other same = rw (same (codes "--seed")) (rw (same (codes "--count")) (rw (same (codes "--workers")) refl))

-- what is made of their numbers, where these are options of the names and it is good, is the same in any order
same_choice : {A : Type 0} (names : List (List ℕ)) (value : List Setting → A) (good : A → Bool) (given other : List Setting) → IsPermutation given other
    → (HaveSameNumbers given other → value given ≡ value other)
    → cond (are_options names given && good (value given)) (Some (value given)) None ≡ cond (are_options names other && good (value other)) (Some (value other)) None
same_choice {A} names value good given other order same = by (are_options names given) refl (are_options names other) refl where
  by : (t : Bool) → are_options names given ≡ t → (u : Bool) → are_options names other ≡ u
      → cond (are_options names given && good (value given)) (Some (value given)) None ≡ cond (are_options names other && good (value other)) (Some (value other)) None
  by true e true f = rw e (rw f (ap (λ (v : A). cond (good v) (Some v) None) (same (same_number names given other order (each_once names given e)))))
  by true e false f = let found = same_options names given other order e in absurd (cc)
  by false e true f = let found = same_options names other given (IsPermutation-sym given other order) f in absurd (cc)
  by false e false f = rw e (rw f refl)

same_script : (given other : List Setting) → IsPermutation given other → script_by given ≡ script_by other
same_script given other order =
    same_choice (option_names commands.Script) script_of (λ (script : Script). is_shape script.shape) given other order (same_scripts given other)

same_server : (given other : List Setting) → IsPermutation given other → server_by given ≡ server_by other
same_server given other order = same_choice (option_names commands.Serve) server_of is_server given other order (same_servers given other)

same_demo : (given other : List Setting) → IsPermutation given other → demo_by given ≡ demo_by other
same_demo given other order = same_choice (option_names commands.Demo) demo_of is_demo given other order (same_demos given other)

pub same_in_any_order : AskTheSameInAnyOrder
same_in_any_order command options other order =
    by (bytes_eq command (codes "script")) (bytes_eq command (codes "serve")) (bytes_eq command (codes "demo"))
    (ap (λ (o : Option Script). option_map asking.Script o) (same_script (settings options) (settings other) order))
    (ap (λ (o : Option Server). option_map asking.Serve o) (same_server (settings options) (settings other) order))
    (ap (λ (o : Option Demo). option_map asking.Demo o) (same_demo (settings options) (settings other) order)) where
      by : (t u v : Bool) → option_map asking.Script (script_by (settings options)) ≡ option_map asking.Script (script_by (settings other))
          → option_map asking.Serve (server_by (settings options)) ≡ option_map asking.Serve (server_by (settings other))
          → option_map asking.Demo (demo_by (settings options)) ≡ option_map asking.Demo (demo_by (settings other))
          → cond t (option_map asking.Script (script_by (settings options))) (cond u (option_map asking.Serve (server_by (settings options)))
          (cond v (option_map asking.Demo (demo_by (settings options))) None))
          ≡ cond t (option_map asking.Script (script_by (settings other))) (cond u (option_map asking.Serve (server_by (settings other)))
          (cond v (option_map asking.Demo (demo_by (settings other))) None))
      by true u v script server demo = script
      by false true v script server demo = server
      by false false true script server demo = demo
      by false false false script server demo = refl
