-- A tail whose last append was cut short at its mark, and one whose was not.
use Rattle.std.proofs.Common.{◌≡◌, inl, inr, ⊎_elim, ℕ, ◌+◌, ◌^◌, ◌<◌, List, [], ◌∷◌, ◌++◌, length, map, Option, Some, None, IfSome, sym, ◌∙◌, ap, subst, arith, length-append}
use Rattle.std.proofs.lemmas.List.{map-append}
use Rattle.std.proofs.lemmas.Option.{IfSome_then}
use Rattle.std.specs.Int.{w64, to_le_bytes}
use Rattle.std.specs.List.{AllByRecursion}
use Rattle.sc_files.specs.States.{FileState, AreAmong, LeavesOnly}
use Rattle.sc_tail.specs.Frames.{frame, frames, opened}
use Rattle.sc_tail.specs.Files.{Fits, Behind, IsShut, IsAny, behind_mark, IsWhole, IsHalf, IsTailAt, OpensToEither}
use Rattle.sc_tail.specs.Tails.{bodies_of}
use Rattle.sc_tail.specs.declared.tail.Tail.{Tail}
use Rattle.sc_tail.proofs.FrameLemmas.{frames-push}
use Rattle.sc_tail.proofs.HalfLemmas.{Opening}
use Rattle.sc_tail.proofs.ImageLemmas.{any_mark, opens_to}
use Rattle.sc_tail.proofs.MomentLemmas.{started, runs_on}

pub whole_of : (file : FileState) (end : ℕ) (half : Option ℕ) (bodies staged : List (List ℕ)) → half ≡ None → IsTailAt file end half bodies staged → IsWhole file end bodies
whole_of file end half bodies staged is tail = subst (λ h. IsTailAt file end h bodies staged) is tail

pub half_of : (file : FileState) (end : ℕ) (half : Option ℕ) (bodies staged : List (List ℕ)) (len : ℕ) → half ≡ Some len → IsTailAt file end half bodies staged → IsHalf file end len bodies staged
half_of file end half bodies staged len is tail = subst (λ h. IsTailAt file end h bodies staged) is tail

pub tail_of_half : (file : FileState) (end : ℕ) (half : Option ℕ) (bodies staged : List (List ℕ)) (len : ℕ) → half ≡ Some len → IsHalf file end len bodies staged → IsTailAt file end half bodies staged
tail_of_half file end half bodies staged len is tail = subst (λ h. IsTailAt file end h bodies staged) (sym is) tail

pub length-frames : (bodies : List (List ℕ)) (body : List ℕ) → length (frames (bodies ++ body ∷ [])) ≡ length (frames bodies) + (9 + length body)
length-frames bodies body = omega (arith, ap length (frames-push bodies body), length-append (frames bodies) (frame body), length-append (1 ∷ to_le_bytes w64 (length body)) body)

-- a body is the last of the bodies once it is noted
pub noted : (items : List (List ℕ × Unit {0})) (body : List ℕ) → map (λ one. one.0) (items ++ (body, tt) ∷ []) ≡ map (λ one. one.0) items ++ body ∷ []
noted items body = map-append (λ one. one.0) items ((body, tt) ∷ [])

-- the mark is to be written again
pub still_half : (start file : FileState) (end len : ℕ) (bodies staged : List (List ℕ)) (body : List ℕ) → Opening start file bodies body IsAny → staged ≡ bodies ++ body ∷ [] → len ≡ length body → end + (9 + len) < 2 ^ 64 → end ≡ length (frames bodies) → IsHalf file end len bodies staged
still_half start file end len bodies staged body o all size room is = record {
  body = body;
  staged = all;
  fits = o.fits;
  len = size;
  room = room;
  end = is;
  seen = o.seen;
  crash = o.crash;
  kept = o.kept;
}

-- what was staged behind a closed mark may be opened
pub half_begins : (file : FileState) (end new_end len : ℕ) (bodies new_bodies staged : List (List ℕ)) (body bytes : List ℕ) → AllByRecursion Fits bodies → end ≡ length (frames bodies) → new_end ≡ end → new_bodies ≡ bodies → bytes ≡ body
    → staged ≡ new_bodies ++ body ∷ [] → len ≡ length body → end + (9 + len) < 2 ^ 64
    → IfSome file.seen (Behind bodies IsShut (behind_mark bytes)) → AreAmong file.may_leave (Behind bodies IsShut (behind_mark bytes)) → AreAmong file.kept (Behind bodies IsShut (behind_mark bytes)) → IsHalf file new_end len new_bodies staged
half_begins file end new_end len bodies new_bodies staged body bytes fits is same_end same same_bytes all size room seen crash kept = record {
  body = body;
  staged = all;
  fits = subst (λ l. AllByRecursion Fits l) (sym same) fits;
  len = size;
  room = omega (arith, room, same_end);
  end = same_end ∙ is ∙ ap (λ l. length (frames l)) (sym same);
  seen = IfSome_then file.seen seen known;
  crash = λ c left. known c (crash c left);
  kept = λ c left. known c (kept c left);
}
  where
    known : (c : List ℕ) → Behind bodies IsShut (behind_mark bytes) c → Behind new_bodies IsAny (behind_mark body) c
    known c b =
        subst (λ l. Behind l IsAny (behind_mark body) c) (sym same)
        (any_mark bodies IsShut (behind_mark body) c (subst (λ l. Behind bodies IsShut (behind_mark l) c) same_bytes b))

-- each crash leaves the frames of a whole file
pub whole_opens : (file : FileState) (end : ℕ) (bodies : List (List ℕ)) → IsWhole file end bodies → AreAmong file.may_leave (λ c. opened c ≡ bodies)
whole_opens file end bodies whole c left = opens_to bodies [] c whole.fits (whole.crash c left)

-- the staged bodies are the frames' once the mark is written
pub staged_whole : (file : FileState) (end : ℕ) (bodies staged : List (List ℕ)) (body : List ℕ) → staged ≡ bodies ++ body ∷ [] → IsWhole file end (bodies ++ body ∷ []) → IsWhole file end staged
staged_whole file end bodies staged body all whole = subst (λ l. IsWhole file end l) (sym all) whole

-- the stage and the mark, one after the other
pub append_leaves : (start file new : FileState) (bodies mid_bodies staged : List (List ℕ)) (body : List ℕ) → mid_bodies ≡ bodies → staged ≡ mid_bodies ++ body ∷ [] → LeavesOnly start file (λ c. opened c ≡ bodies) → LeavesOnly file new (OpensToEither mid_bodies staged)
    → LeavesOnly start new (OpensToEither bodies (bodies ++ body ∷ []))
append_leaves start file new bodies mid_bodies staged body same all one two =
    runs_on start file new (λ c. opened c ≡ bodies) (OpensToEither bodies (bodies ++ body ∷ [])) one
    (subst (λ l. LeavesOnly file new (OpensToEither bodies l)) (all ∙ ap (λ (l : List (List ℕ)). l ++ body ∷ []) same) (subst (λ l. LeavesOnly file new (OpensToEither l staged)) same two))
    (λ c is. inl is)

-- the stage alone
pub stage_leaves : (start file : FileState) (bodies other : List (List ℕ)) → LeavesOnly start file (λ c. opened c ≡ bodies) → LeavesOnly start file (OpensToEither bodies other)
stage_leaves start file bodies other one = record {
  later = one.later;
  each = λ c left. inl (one.each c left);
  before = λ t c le left. ⊎_elim (λ was. inl was) (λ is. inr (inl is)) (one.before t c le left);
}

pub tail_of_whole : (file : FileState) (end new_end : ℕ) (half : Option ℕ) (bodies new_bodies staged : List (List ℕ)) → half ≡ None → new_end ≡ end → new_bodies ≡ bodies → IsWhole file end bodies → IsTailAt file new_end half new_bodies staged
tail_of_whole file end new_end half bodies new_bodies staged is same_end same whole =
    subst (λ h. IsTailAt file new_end h new_bodies staged) (sym is) (subst (λ n. IsWhole file n new_bodies) (sym same_end) (subst (λ l. IsWhole file end l) (sym same) whole))

-- no call
pub whole_leaves : (file : FileState) (end : ℕ) (bodies other : List (List ℕ)) → IsWhole file end bodies → ((c : List ℕ) → file.left_since file.moment c → file.may_leave c) → LeavesOnly file file (OpensToEither bodies other)
whole_leaves file end bodies other whole now = started file (OpensToEither bodies other) (λ c left. inl (whole_opens file end bodies whole c (now c left)))

-- what a change of the file alone leaves
pub same_end : {F : Type 0} (new old : Tail F) (file : F) → new ≡ record old { file = file } → new.end ≡ old.end
same_end {F} new old file is = ap (λ (t : Tail F). t.end) is

pub same_bodies : {F : Type 0} (new old : Tail F) (file : F) → new ≡ record old { file = file } → bodies_of new ≡ bodies_of old
same_bodies {F} new old file is = ap (λ (t : Tail F). bodies_of t) is

pub noted_then : (items more : List (List ℕ × Unit {0})) (body : List ℕ) → more ≡ items ++ (body, tt) ∷ [] → map (λ one. one.0) more ≡ map (λ one. one.0) items ++ body ∷ []
noted_then items more body is = ap (λ (l : List (List ℕ × Unit {0})). map (λ one. one.0) l) is ∙ noted items body
