-- Lists of ids that are none.
use Rattle.std.proofs.Common.{◌≡◌, ℕ, ◌<◌, ◌≤◌, Bool, true, false, ◌&&◌, cond, List, length, get_or, Option, Some, None, codes, refl, sym, ap, ◌∙◌, arith}
use Rattle.std.specs.List.{list_all}
use Rattle.std.proofs.lemmas.Bool.Decides.{nat_tests}
use Rattle.std.proofs.lemmas.List.Folds.{list_all_at}
use Rattle.std.specs.Bool.{nat_le}
use Rattle.sc_reply.specs.Refusals as refusals
use Rattle.sc_model.specs.Parameters.{between_commas}
use Rattle.sc_session.specs.Requests as asking

-- a choice by two tests, of which one fails
left_fails : (a b : Bool) (x y : asking.Asked) → a ≡ false → y ≡ cond (a && b) x y
left_fails false b x y h = refl
left_fails true b x y h = cc

right_fails : (a b : Bool) (x y : asking.Asked) → b ≡ false → y ≡ cond (a && b) x y
right_fails a true x y h = cc
right_fails true false x y h = refl
right_fails false false x y h = refl

both_hold : (a b : Bool) (x y : asking.Asked) → a ≡ true → b ≡ true → x ≡ cond (a && b) x y
both_hold true true x y g h = refl
both_hold true false x y g h = cc
both_hold false b x y g h = cc

-- a part that is no id
pub asked_list-no_id : (text : List ℕ) (i : ℕ) (part : List ℕ) → i < length (between_commas text)
    → part ≡ get_or (between_commas text) i part → asking.is_id part ≡ false
    → asking.refused (refusals.bad_param (codes "ids")) ≡ asking.asked_list text
asked_list-no_id text i part less is none =
    let parts = between_commas text in
    right_fails (nat_le (length parts) asking.most_ids) (list_all asking.is_id parts) _ _
    (list_all_at asking.is_id parts i part less (ap asking.is_id (sym is) ∙ none))

-- more parts than may be
pub asked_list-too_many : (text : List ℕ) → asking.most_ids < length (between_commas text)
    → asking.refused (refusals.bad_param (codes "ids")) ≡ asking.asked_list text
asked_list-too_many text more =
    let parts = between_commas text in
    left_fails (nat_le (length parts) asking.most_ids) (list_all asking.is_id parts) _ _ (grind (arith, nat_tests))

-- every part is an id
pub asked_list-all : (text : List ℕ) (ids : List (List ℕ)) → ids ≡ between_commas text
    → list_all asking.is_id ids ≡ true → length ids ≤ asking.most_ids → asking.get_ids ids ≡ asking.asked_list text
asked_list-all text ids is all few =
    let parts = between_commas text in
    let same = ap length is in
    ap asking.get_ids is
    ∙ both_hold (nat_le (length parts) asking.most_ids) (list_all asking.is_id parts) _ _ (grind (arith, nat_tests))
    (ap (list_all asking.is_id) (sym is) ∙ all)

-- nothing was chosen
pub not_chosen : (b : Bool) (text : List ℕ) (found : Option (List ℕ)) → found ≡ cond b (Some text) None → found ≡ None
    → b ≡ false
not_chosen true text found is none = cc
not_chosen false text found is none = refl
