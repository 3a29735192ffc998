-- Where reading ends, and how it goes on by a frame.
use Rattle.std.proofs.Common.{◌≡◌, ◌≢◌, ℕ, suc, ◌+◌, ◌-◌, ◌<◌, ◌≤◌, List, [], ◌∷◌, ◌++◌, length, get_or, take, drop, Some, None, refl, sym, ◌∙◌, ap, arith, append_assoc, length-append, take-append-drop}
use Rattle.std.proofs.lemmas.List.{append-nil, drop_at, drop_more, take-append-le, length-take-le, length-drop, drop-drop}
use Rattle.std.proofs.lemmas.Nat.{le_bytes_8}
use Rattle.std.proofs.Math.Seq.{take-append-add}
use Rattle.std.specs.Int.{w64, to_le_bytes, from_le_bytes}
use Rattle.sc_files.specs.Images.{ReadsAt}
use Rattle.sc_tail.specs.Frames.{frame, frames, told_length, first_frame, opened}
use Rattle.sc_tail.specs.Files.{HasRead}
use Rattle.sc_tail.proofs.FrameLemmas.{first_open, first_shut, first_cut, opened_first, opened_none, frames-push}

-- nothing was read yet
pub begins : (size : ℕ) (file : List ℕ) → size ≡ length file → HasRead [] 0 size file
begins size file is = record { rest = file; split = refl; at = refl; len = is; opens = refl }

bytes_after : (l : List ℕ) → ((i : ℕ) → get_or l i 0 < 256) → (i : ℕ) → get_or (drop 1 l) i 0 < 256
bytes_after [] all i = all i
bytes_after (x ∷ l) all i = all (suc i)

-- the bytes after a mark spell the number that they tell
pub spelt_after : (head : List ℕ) (told : ℕ) → length head ≡ 9 → ((i : ℕ) → get_or head i 0 < 256) → told ≡ from_le_bytes w64 (drop 1 head) → to_le_bytes w64 told ≡ drop 1 head
spelt_after head told nine all is = le_bytes_8 (drop 1 head) told (omega (arith, length-drop 1 head, nine)) (bytes_after head all) is

-- what one read adds to what was filled
pub read_after : (bytes into got post : List ℕ) (at done count : ℕ) → done ≤ length into → count ≤ length got → ReadsAt (at + done) count bytes (take count got) → take done into ≡ take done (drop at bytes)
    → take (done + count) (take done into ++ (got ++ post)) ≡ take (done + count) (drop at bytes)
read_after bytes into got post at done count within came reads same =
    let X = drop at bytes in
    let long : length (take done into) ≡ done = length-take-le done into within in
    let long_too : length (take done X) ≡ done = ap length (sym same) ∙ long in
    ap (λ n. take (n + count) (take done into ++ (got ++ post))) (sym long)
    ∙ take-append-add (take done into) (got ++ post) count
    ∙ ap (λ (l : List ℕ). take done into ++ l) (take-append-le count got post came ∙ reads.piece ∙ ap (λ l. take count l) (sym (drop-drop done at bytes)))
    ∙ ap (λ (l : List ℕ). l ++ take count (drop done X)) same
    ∙ sym (ap (λ l. take (done + count) l) (sym (take-append-drop done X)) ∙ ap (λ n. take (n + count) (take done X ++ drop done X)) (sym long_too) ∙ take-append-add (take done X) (drop done X) count)

module _ (bodies : List (List ℕ)) (place size : ℕ) (file : List ℕ) (read : HasRead bodies place size file) where
  from_place : drop place file ≡ read.rest
  from_place = ap (λ l. drop place l) read.split ∙ drop_at (frames bodies) read.rest place (sym read.at)

  left : length read.rest ≡ size - place
  left = omega (arith, read.at, read.len, ap length read.split, length-append (frames bodies) read.rest)

  -- where no frame is open, that is all
  ends : first_frame read.rest ≡ None → opened file ≡ bodies
  ends none = read.opens ∙ ap (λ (l : List (List ℕ)). bodies ++ l) (opened_none read.rest none) ∙ append-nil bodies

  no_first : (rest : List ℕ) → length rest < 10 → first_frame rest ≡ None
  no_first [] short = refl
  no_first (mark ∷ rest) short = first_cut mark rest (omega (arith, short))

  -- fewer than ten bytes are no frame and a byte more
  pub ends_short : size - place < 10 → opened file ≡ bodies
  ends_short short = ends (no_first read.rest (omega (arith, short, left)))

  -- the mark and what comes after it
  parted : 10 ≤ size - place → read.rest ≡ get_or read.rest 0 0 ∷ drop 1 read.rest
  parted long = drop_more read.rest 0 0 (omega (arith, long, left))

  module _ (head : List ℕ) (long : 10 ≤ size - place) (nine : head ≡ take 9 (drop place file)) where
    head_is : head ≡ get_or read.rest 0 0 ∷ take 8 (drop 1 read.rest)
    head_is = nine ∙ ap (λ l. take 9 l) (from_place ∙ parted long)

    behind : List ℕ
    behind = drop 1 read.rest

    told_is : told_length (drop 1 read.rest) ≡ from_le_bytes w64 (drop 1 head)
    told_is = ap (λ l. from_le_bytes w64 l) (sym (ap (λ l. drop 1 l) head_is))

    -- a mark that isn't open
    pub ends_shut : get_or head 0 0 ≢ 1 → opened file ≡ bodies
    ends_shut shut = ends (ap (λ l. first_frame l) (parted long) ∙ first_shut (get_or read.rest 0 0) (drop 1 read.rest) (λ is. shut (ap (λ l. get_or l 0 0) head_is ∙ is)))

    -- a frame that isn't whole
    pub ends_cut : size - place - 10 < from_le_bytes w64 (drop 1 head) → opened file ≡ bodies
    ends_cut short = ends (ap (λ l. first_frame l) (parted long) ∙ first_cut (get_or read.rest 0 0) (drop 1 read.rest) (omega (arith, short, told_is, left, length-drop 1 read.rest)))

    module _ (told : ℕ) (is_open : get_or head 0 0 ≡ 1) (tells : told ≡ from_le_bytes w64 (drop 1 head)) (whole : told ≤ size - place - 10) (spells : to_le_bytes w64 told ≡ drop 1 head) where
      mark_is : get_or read.rest 0 0 ≡ 1
      mark_is = sym (ap (λ l. get_or l 0 0) head_is) ∙ is_open

      -- the body
      pub body_at : drop (place + 9) file ≡ drop 8 (drop 1 read.rest)
      body_at = sym (drop-drop 9 place file) ∙ ap (λ l. drop 9 l) (from_place ∙ parted long)

      spelt : to_le_bytes w64 told ≡ take 8 (drop 1 read.rest)
      spelt = spells ∙ ap (λ l. drop 1 l) head_is

      -- reading goes on behind the frame
      pub goes_on : (body : List ℕ) → length body ≡ told → body ≡ take told (drop (place + 9) file) → HasRead (bodies ++ body ∷ []) (place + (9 + told)) size file
      goes_on body size_is is =
          let R = drop 1 read.rest in
          let after = drop (8 + told) R in
          let same : told_length R ≡ told = told_is ∙ sym tells in
          let long_enough : 8 + told < length R = omega (arith, whole, long, left, length-drop 1 read.rest) in
          let body_is : take told (drop 8 R) ≡ body = sym (is ∙ ap (λ l. take told l) body_at) in
          let first : first_frame read.rest ≡ Some (body, after) =
          ap (λ l. first_frame l) (parted long) ∙ first_open (get_or read.rest 0 0) R mark_is (omega (arith, long_enough, same))
          ∙ (λ i. Some (take (same i) (drop 8 R), drop (8 + same i) R)) ∙ (λ i. Some (body_is i, after)) in
          let apart : R ≡ (to_le_bytes w64 (length body) ++ body) ++ after =
          sym (take-append-drop 8 R)
          ∙ (λ i. spelt_back body size_is i ++ (sym (take-append-drop told (drop 8 R)) i))
          ∙ (λ i. to_le_bytes w64 (length body) ++ (body_is i ++ drop-drop told 8 R i))
          ∙ sym (append_assoc (to_le_bytes w64 (length body)) body after) in
          let rest_is : read.rest ≡ frame body ++ after = parted long ∙ (λ i. mark_is i ∷ apart i) in
          record {
            rest = after;
            split = read.split ∙ ap (λ l. frames bodies ++ l) rest_is ∙ sym (append_assoc (frames bodies) (frame body) after) ∙ ap (λ l. l ++ after) (sym (frames-push bodies body));
            at = omega (arith, read.at, size_is, ap length (frames-push bodies body), length-append (frames bodies) (frame body), length-append (1 ∷ to_le_bytes w64 (length body)) body);
            len = read.len;
            opens =
                read.opens ∙ ap (λ (l : List (List ℕ)). bodies ++ l) (opened_first read.rest (body, after) first)
                ∙ sym (append_assoc bodies (body ∷ []) (opened after));
          }
        where
          spelt_back : (body : List ℕ) → length body ≡ told → take 8 (drop 1 read.rest) ≡ to_le_bytes w64 (length body)
          spelt_back body size_is = sym spelt ∙ ap (λ n. to_le_bytes w64 n) (sym size_is)
