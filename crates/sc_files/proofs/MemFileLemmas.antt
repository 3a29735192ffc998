-- How the calls of a file in memory change what it says of itself, by what they leave in its fields.
use Rattle.std.proofs.Common.{◌≡◌, inl, inr, ℕ, ◌-◌, ◌<◌, min, Bool, true, false, List, [], ◌∷◌, ◌++◌, length, take, drop, Some, if◌then◌else◌, sym, ◌∙◌, ap, subst, arith, OnErr, Ok, Err, Result}
use Rattle.std.proofs.lemmas.Bool.{cases_lt}
use Rattle.sc_files.specs.Images.{Holds, Torn, IsCut, Cut, ReadsAt}
use Rattle.sc_files.specs.States.{FileState, Changes, Stays, Syncs, FailsToSync, IsFresh, IsDurable}
use Rattle.sc_files.specs.Memory.{outcomes, state_of, memory_state, overwritten}
use Rattle.sc_files.specs.declared.mem_file.Call.{Call}
use Rattle.sc_files.specs.declared.mem_file.Call.TheVariants as call
use Rattle.sc_files.specs.declared.mem_file.MemFile.{MemFile}
use Rattle.sc_files.proofs.MemoryLemmas as memory

is_false : Bool → Type 0
is_false true = ⊥
is_false false = Unit {0}

not_both : false ≡ true → ⊥
unfolding is_false
not_both e = subst is_false e tt

not_either : true ≡ false → ⊥
unfolding is_false
not_either e = subst is_false (sym e) tt

-- a file in memory is what its fields say
by_fields : (new : MemFile) (first bytes : List ℕ) (calls : List Call) → new.first ≡ first → new.bytes ≡ bytes → new.history ≡ calls → state_of first bytes calls new.faults ≡ memory_state new
by_fields new first bytes calls same_first same_bytes same_calls = λ i. state_of (sym same_first i) (sym same_bytes i) (sym same_calls i) new.faults

module _ (old new : MemFile) (first : new.first ≡ old.first) where
  pub stays : new.bytes ≡ old.bytes → new.history ≡ old.history → Stays (memory_state old) (memory_state new)
  stays bytes history =
      subst (λ (s : FileState). Stays (memory_state old) s) (by_fields new old.first old.bytes old.history first bytes history) (memory.stays old.first old.history old.bytes old.faults new.faults)

  pub writes : (at : ℕ) (more : List ℕ) (done : Bool) → done ≡ true → new.history ≡ old.history ++ call.Write at more done ∷ [] → new.bytes ≡ (if done then overwritten old.bytes at more else old.bytes)
      → Changes (Torn at (length more)) (Holds at more) (memory_state old) (memory_state new)
  writes at more true is history bytes =
      subst (λ (s : FileState). Changes (Torn at (length more)) (Holds at more) (memory_state old) s)
      (by_fields new old.first (overwritten old.bytes at more) (old.history ++ call.Write at more true ∷ []) first bytes history) (memory.writes old.first old.history old.bytes old.faults new.faults at more)
  writes at more false is history bytes = absurd (not_both is)

  pub write_fails : (at : ℕ) (more : List ℕ) (done : Bool) → done ≡ false → new.history ≡ old.history ++ call.Write at more done ∷ [] → new.bytes ≡ (if done then overwritten old.bytes at more else old.bytes)
      → Changes (Torn at (length more)) (Torn at (length more)) (memory_state old) (memory_state new)
  write_fails at more true is history bytes = absurd (not_either is)
  write_fails at more false is history bytes =
      subst (λ (s : FileState). Changes (Torn at (length more)) (Torn at (length more)) (memory_state old) s)
      (by_fields new old.first old.bytes (old.history ++ call.Write at more false ∷ []) first bytes history) (memory.write_fails old.first old.history old.bytes old.faults new.faults at more)

  pub writes_nothing : (at n : ℕ) → new.history ≡ old.history → new.bytes ≡ old.bytes → Changes (Torn at n) (Torn at n) (memory_state old) (memory_state new)
  writes_nothing at n history bytes =
      subst (λ (s : FileState). Changes (Torn at n) (Torn at n) (memory_state old) s) (by_fields new old.first old.bytes old.history first bytes history) (memory.writes_nothing old.first old.history old.bytes old.faults new.faults at n)

  pub cuts : (n : ℕ) (done : Bool) → done ≡ true → new.history ≡ old.history ++ call.Cut n done ∷ [] → new.bytes ≡ (if done then take n old.bytes else old.bytes) → Changes (Cut n) (IsCut n) (memory_state old) (memory_state new)
  cuts n true is history bytes =
      subst (λ (s : FileState). Changes (Cut n) (IsCut n) (memory_state old) s) (by_fields new old.first (take n old.bytes) (old.history ++ call.Cut n true ∷ []) first bytes history) (memory.cuts old.first old.history old.bytes old.faults new.faults n)
  cuts n false is history bytes = absurd (not_both is)

  pub cut_fails : (n : ℕ) (done : Bool) → done ≡ false → new.history ≡ old.history ++ call.Cut n done ∷ [] → new.bytes ≡ (if done then take n old.bytes else old.bytes) → Changes (Cut n) (Cut n) (memory_state old) (memory_state new)
  cut_fails n true is history bytes = absurd (not_either is)
  cut_fails n false is history bytes =
      subst (λ (s : FileState). Changes (Cut n) (Cut n) (memory_state old) s) (by_fields new old.first old.bytes (old.history ++ call.Cut n false ∷ []) first bytes history) (memory.cut_fails old.first old.history old.bytes old.faults new.faults n)

  pub cuts_nothing : (n : ℕ) → new.history ≡ old.history → new.bytes ≡ old.bytes → Changes (Cut n) (Cut n) (memory_state old) (memory_state new)
  cuts_nothing n history bytes =
      subst (λ (s : FileState). Changes (Cut n) (Cut n) (memory_state old) s) (by_fields new old.first old.bytes old.history first bytes history) (memory.cuts_nothing old.first old.history old.bytes old.faults new.faults n)

  pub syncs : (done : Bool) → done ≡ true → new.history ≡ old.history ++ call.Sync done ∷ [] → new.bytes ≡ old.bytes → Syncs (memory_state old) (memory_state new)
  syncs true is history bytes =
      subst (λ (s : FileState). Syncs (memory_state old) s) (by_fields new old.first old.bytes (old.history ++ call.Sync true ∷ []) first bytes history) (memory.syncs old.first old.history old.bytes old.faults new.faults)
  syncs false is history bytes = absurd (not_both is)

  pub sync_fails : (done : Bool) → done ≡ false → new.history ≡ old.history ++ call.Sync done ∷ [] → new.bytes ≡ old.bytes → FailsToSync (memory_state old) (memory_state new)
  sync_fails true is history bytes = absurd (not_either is)
  sync_fails false is history bytes =
      subst (λ (s : FileState). FailsToSync (memory_state old) s) (by_fields new old.first old.bytes (old.history ++ call.Sync false ∷ []) first bytes history) (memory.sync_fails old.first old.history old.bytes old.faults new.faults)

  pub syncs_nothing : new.history ≡ old.history → new.bytes ≡ old.bytes → FailsToSync (memory_state old) (memory_state new)
  syncs_nothing history bytes =
      subst (λ (s : FileState). FailsToSync (memory_state old) s) (by_fields new old.first old.bytes old.history first bytes history) (memory.syncs_nothing old.first old.history old.bytes old.faults new.faults)

-- a file that was just opened
pub fresh : (file : MemFile) → file.history ≡ [] → file.first ≡ file.bytes → IsFresh (memory_state file)
fresh file none same c left = ap Some (sym (subst (λ (l : List Call). (outcomes file.first l).kept c) none left ∙ same))

pub durable : (file : MemFile) → file.history ≡ [] → file.first ≡ file.bytes → IsDurable (memory_state file)
durable file none same c left = ap Some (sym (subst (λ (l : List Call). (outcomes file.first l).may_leave c) none left ∙ same))

-- the bytes from a place on, as many as there are and as there is room for
pub reads : (bytes got : List ℕ) (at from count room : ℕ) → from ≡ min (length bytes) at → count ≡ min (length bytes - from) room → 0 < room → got ≡ take count (drop from bytes) → ReadsAt at count bytes got
reads bytes got at from count room begins ends some is = record {
  piece = is ∙ piece;
  there = omega (arith, begins, ends);
  end = λ none. omega (arith, begins, ends, some, none);
}
  where
    piece : take count (drop from bytes) ≡ take count (drop at bytes)
    piece = elim (cases_lt (length bytes) at) [
      | inl beyond ↦
          let none : count ≡ 0 = omega (arith, begins, ends, beyond) in
          ap (λ n. take n (drop from bytes)) none ∙ ap (λ n. take n (drop at bytes)) (sym none)
      | inr within ↦ let same : from ≡ at = omega (arith, begins, within) in ap (λ n. take count (drop n bytes)) same
    ]

-- what holds at an error
pub on_err : {T E : Type 0} (r : Result T E) (P : Type 0) → P → OnErr r P
on_err (Ok value) P p = tt
on_err (Err fault) P p = p
