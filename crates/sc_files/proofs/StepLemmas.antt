-- How an image of a file in memory goes on by one call more.
use Rattle.std.proofs.Common.{◌≡◌, ℕ, ◌+◌, ◌≤◌, ◌<◌, Bool, true, false, List, [], ◌∷◌, ◌++◌, length, get_or, take, sym, ◌∙◌, ap, subst}
use Rattle.std.proofs.lemmas.List.{take_all, take_more}
use Rattle.sc_files.specs.Memory.{Outcomes, outcomes_after, outcomes}
use Rattle.sc_files.specs.Steps.{LeadsTo}
use Rattle.sc_files.specs.declared.mem_file.Call.{Call}
use Rattle.sc_files.specs.declared.mem_file.Call.TheVariants as call
use Rattle.sc_files.proofs.MemoryLemmas.{torn_same, cut_same, now_then}

-- these bytes are an outcome, which a sync may keep where it is said to
pub record HasImage (o : Outcomes) (bytes : List ℕ) (is_kept : Bool) : Type 0 where
  pub left : o.may_leave bytes
  pub kept : is_kept ≡ true → o.kept bytes

goes_on : (one : Call) (o : Outcomes) (c d : List ℕ) (k l : Bool) → HasImage o c k → LeadsTo one c k d l → HasImage (outcomes_after one o) d l
goes_on (call.Write at bytes done) o c d k l h step = record { left = (c, h.left, step.0); kept = λ is. (c, h.kept ((step.1 is).0), (step.1 is).1) }
goes_on (call.Cut len done) o c d k l h step = record { left = (c, h.left, step.0); kept = λ is. (c, h.kept ((step.1 is).0), (step.1 is).1) }
goes_on (call.Sync true) o c d k l h step = record {
  left = (subst o.may_leave (sym step.1) h.left, subst o.kept (sym step.1) (h.kept step.0));
  kept = λ is. subst o.kept (sym step.1) (h.kept step.0);
}
goes_on (call.Sync false) o c d k l h step = record { left = subst o.may_leave (sym step) h.left; kept = λ is. subst o.may_leave (sym step) h.left }

-- before the first call, after one more, and after all
pub begins : (first : List ℕ) (calls : List Call) (bytes : List ℕ) → bytes ≡ first → HasImage (outcomes first (take 0 calls)) bytes true
begins first calls bytes is = record { left = is; kept = λ kept. is }

pub next : (first : List ℕ) (calls : List Call) (at : ℕ) (one : Call) (c d : List ℕ) (k l : Bool) → at < length calls → one ≡ get_or calls at one → HasImage (outcomes first (take at calls)) c k → LeadsTo one c k d l → HasImage (outcomes first (take (at + 1) calls)) d l
next first calls at one c d k l there is h step =
    let more : take (at + 1) calls ≡ take at calls ++ one ∷ [] = take_more calls at one there ∙ ap (λ (x : Call). take at calls ++ x ∷ []) (sym is) in
    subst (λ (o : Outcomes). HasImage o d l) (sym (ap (λ (x : List Call). outcomes first x) more ∙ now_then first (take at calls) one)) (goes_on one (outcomes first (take at calls)) c d k l h step)

pub ends : (first : List ℕ) (calls : List Call) (at : ℕ) (c : List ℕ) (k : Bool) → length calls ≤ at → HasImage (outcomes first (take at calls)) c k → (outcomes first calls).may_leave c
ends first calls at c k all h = subst (λ (x : List Call). (outcomes first x).may_leave c) (take_all at calls all) h.left

-- a call that failed need not have changed a byte
pub write_failed : (one : Call) (old : List ℕ) (k : Bool) (at : ℕ) (bytes : List ℕ) (done : Bool) → one ≡ call.Write at bytes done → done ≡ false → LeadsTo one old k old k
write_failed one old k at bytes done is failed = subst (λ (x : Call). LeadsTo x old k old k) (sym (is ∙ ap (λ (b : Bool). call.Write at bytes b) failed)) (torn_same at (length bytes) old, λ kept. (kept, torn_same at (length bytes) old))

pub cut_failed : (one : Call) (old : List ℕ) (k : Bool) (len : ℕ) (done : Bool) → one ≡ call.Cut len done → done ≡ false → LeadsTo one old k old k
cut_failed one old k len done is failed = subst (λ (x : Call). LeadsTo x old k old k) (sym (is ∙ ap (λ (b : Bool). call.Cut len b) failed)) (cut_same len old, λ kept. (kept, cut_same len old))
