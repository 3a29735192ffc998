-- How a file in memory goes on by each of its calls.
use Rattle.std.proofs.Common.{◌≡◌, ◌⊎◌, inl, inr, ⊎_elim, ℕ, ◌+◌, true, false, List, [], ◌∷◌, ◌++◌, length, take, refl, sym, subst, arith, length-append}
use Rattle.std.proofs.lemmas.Bool.{cases_lt}
use Rattle.std.proofs.lemmas.List.{take_all, take-append-le}
use Rattle.sc_files.specs.Images.{Holds, Torn, IsCut, Cut}
use Rattle.sc_files.specs.States.{Elapses, Changes, Stays, Syncs, FailsToSync}
use Rattle.sc_files.specs.Memory.{Outcomes, outcomes_after, outcomes_from, outcomes, LeftSince, state_of, overwritten}
use Rattle.sc_files.specs.declared.mem_file.Call.{Call}
use Rattle.sc_files.specs.declared.mem_file.Call.TheVariants as call

-- nothing need have reached the disk
pub torn_same : (at n : ℕ) (d : List ℕ) → Torn at n d d
torn_same at n d = record { before = refl; after = refl; no_shorter = omega arith; no_longer = omega arith }

pub cut_same : (n : ℕ) (d : List ℕ) → Cut n d d
cut_same n d = record { no_shorter = omega arith; front = take_all (length d) d (omega arith) }

outcomes-push : (o : Outcomes) (calls : List Call) (one : Call) → outcomes_from o (calls ++ one ∷ []) ≡ outcomes_after one (outcomes_from o calls)
outcomes-push o [] one = refl
outcomes-push o (first ∷ calls) one = outcomes-push (outcomes_after first o) calls one

module _ (first : List ℕ) (calls : List Call) where
  pub now_then : (one : Call) → outcomes first (calls ++ one ∷ []) ≡ outcomes_after one (outcomes first calls)
  now_then one = outcomes-push (record { may_leave = λ c. c ≡ first; kept = λ c. c ≡ first }) calls one

  pub left : (one : Call) (c : List ℕ) → (outcomes first (calls ++ one ∷ [])).may_leave c → (outcomes_after one (outcomes first calls)).may_leave c
  left one c now = subst (λ (o : Outcomes). o.may_leave c) (now_then one) now

  pub kept : (one : Call) (c : List ℕ) → (outcomes first (calls ++ one ∷ [])).kept c → (outcomes_after one (outcomes first calls)).kept c
  kept one c now = subst (λ (o : Outcomes). o.kept c) (now_then one) now

  -- no call, no moment
  elapses_none : (bytes new : List ℕ) (f g : ℕ) → Elapses (state_of first bytes calls f) (state_of first new calls g)
  elapses_none bytes new f g = record { later = omega arith; nothing_else = λ t c le since. inl since; keeps = λ t c le since. since }

  long : (one : Call) → length (calls ++ one ∷ []) ≡ length calls + 1
  long one = length-append calls (one ∷ [])

  -- one call, one moment more
  elapses_one : (one : Call) (bytes new : List ℕ) (f g : ℕ) → Elapses (state_of first bytes calls f) (state_of first new (calls ++ one ∷ []) g)
  elapses_one one bytes new f g = record {
    later = omega (arith, long one);
    nothing_else = λ t c le since. since_then t c since;
    keeps = λ t c le since. (since.0, since.1, omega (arith, since.2, long one), subst (λ (l : List Call). (outcomes first l).may_leave c) (sym (take-append-le since.0 calls (one ∷ []) since.2)) since.3);
  }
    where
      since_then : (t : ℕ) (c : List ℕ) → LeftSince first (calls ++ one ∷ []) t c → LeftSince first calls t c ⊎ (outcomes first (calls ++ one ∷ [])).may_leave c
      since_then t c (k, late, early, was) = ⊎_elim
          (λ past. inr (subst (λ (l : List Call). (outcomes first l).may_leave c) (take_all k (calls ++ one ∷ []) (omega (arith, past, long one))) was))
          (λ before. inl (k, late, before, subst (λ (l : List Call). (outcomes first l).may_leave c) (take-append-le k calls (one ∷ []) before) was))
          (cases_lt (length calls) k)

  module _ (bytes : List ℕ) (f g : ℕ) where
    pub stays : Stays (state_of first bytes calls f) (state_of first bytes calls g)
    stays = record { seen = refl; crash = λ c now. now; kept = λ c now. now; time = elapses_none bytes bytes f g }

    -- a write that is noted, whether it is done or not, and one that isn't noted
    pub writes : (at : ℕ) (more : List ℕ) → Changes (Torn at (length more)) (Holds at more) (state_of first bytes calls f) (state_of first (overwritten bytes at more) (calls ++ call.Write at more true ∷ []) g)
    writes at more = record {
      seen = (overwritten bytes at more, refl, refl);
      crash = left (call.Write at more true);
      kept = kept (call.Write at more true);
      time = elapses_one (call.Write at more true) bytes (overwritten bytes at more) f g;
    }

    pub write_fails : (at : ℕ) (more : List ℕ) → Changes (Torn at (length more)) (Torn at (length more)) (state_of first bytes calls f) (state_of first bytes (calls ++ call.Write at more false ∷ []) g)
    write_fails at more = record {
      seen = (bytes, refl, torn_same at (length more) bytes);
      crash = left (call.Write at more false);
      kept = kept (call.Write at more false);
      time = elapses_one (call.Write at more false) bytes bytes f g;
    }

    pub writes_nothing : (at n : ℕ) → Changes (Torn at n) (Torn at n) (state_of first bytes calls f) (state_of first bytes calls g)
    writes_nothing at n = record {
      seen = (bytes, refl, torn_same at n bytes);
      crash = λ c now. (c, now, torn_same at n c);
      kept = λ c now. (c, now, torn_same at n c);
      time = elapses_none bytes bytes f g;
    }

    pub cuts : (n : ℕ) → Changes (Cut n) (IsCut n) (state_of first bytes calls f) (state_of first (take n bytes) (calls ++ call.Cut n true ∷ []) g)
    cuts n = record {
      seen = (take n bytes, refl, refl);
      crash = left (call.Cut n true);
      kept = kept (call.Cut n true);
      time = elapses_one (call.Cut n true) bytes (take n bytes) f g;
    }

    pub cut_fails : (n : ℕ) → Changes (Cut n) (Cut n) (state_of first bytes calls f) (state_of first bytes (calls ++ call.Cut n false ∷ []) g)
    cut_fails n = record {
      seen = (bytes, refl, cut_same n bytes);
      crash = left (call.Cut n false);
      kept = kept (call.Cut n false);
      time = elapses_one (call.Cut n false) bytes bytes f g;
    }

    pub cuts_nothing : (n : ℕ) → Changes (Cut n) (Cut n) (state_of first bytes calls f) (state_of first bytes calls g)
    cuts_nothing n = record {
      seen = (bytes, refl, cut_same n bytes);
      crash = λ c now. (c, now, cut_same n c);
      kept = λ c now. (c, now, cut_same n c);
      time = elapses_none bytes bytes f g;
    }

    pub syncs : Syncs (state_of first bytes calls f) (state_of first bytes (calls ++ call.Sync true ∷ []) g)
    syncs = record {
      stays = record {
        seen = refl;
        crash = λ c now. (left (call.Sync true) c now).0;
        kept = kept (call.Sync true);
        time = elapses_one (call.Sync true) bytes bytes f g;
      };
      durable = λ c now. (left (call.Sync true) c now).1;
    }

    pub sync_fails : FailsToSync (state_of first bytes calls f) (state_of first bytes (calls ++ call.Sync false ∷ []) g)
    sync_fails = record {
      seen = refl;
      crash = left (call.Sync false);
      kept = λ c now. inl (kept (call.Sync false) c now);
      time = elapses_one (call.Sync false) bytes bytes f g;
    }

    pub syncs_nothing : FailsToSync (state_of first bytes calls f) (state_of first bytes calls g)
    syncs_nothing = record { seen = refl; crash = λ c now. now; kept = λ c now. inr now; time = elapses_none bytes bytes f g }
