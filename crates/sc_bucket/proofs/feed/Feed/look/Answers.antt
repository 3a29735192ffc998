-- The row that was next is fed where it is in the range.
use Rattle.std.proofs.Common.{◌≡◌, ◌∙◌, ◌+◌, ◌<◌, ℕ, List, Bool, Some, None, true, false, length, map, filter, drop, slice_get, if◌then◌else◌, ap, sym, arith}
use Rattle.std.specs.Option.{option_map}
use Rattle.std.specs.Arc.{arc_value}
use Rattle.std.proofs.lemmas.Option.{same_Some}
use Rattle.sc_hash.specs.declared.range.Range.{Range}
use Rattle.sc_record.specs.Writes.{Write}
use Rattle.sc_keys.proofs.StoringLemmas.{found-within}
use Rattle.sc_snapshot.specs.Rows.{SnapshotState, is_within}
use Rattle.sc_bucket.specs.Kept.{FeedState}
use Rattle.sc_bucket.proofs.FeedLemmas.{left-passed, left-first, first_share}
use Rattle.sc_bucket.proofs.feed.Feed.look.Goals as goal

-- where there is a next row it is told whether its hash is in the range
told : (rows seen : List Write) (next : ℕ) (range : Range) (answer : Bool) → seen ≡ rows → next < length rows
    → ((row : Write) → slice_get seen next ≡ Some row → answer ≡ is_within range row)
    → (row : Write) × (slice_get rows next ≡ Some row) × (answer ≡ is_within range row)
told rows seen next range answer same within tells =
    let here = found-within rows next within in
    (here.0, here.1, tells here.0 (ap (λ (rs : List Write). slice_get rs next) same ∙ here.1))

next_else : (c : goal.Else-is_within) → (row : Write) × (slice_get (arc_value c.self.inside.snapshot).rows c.self.inside.next ≡ Some row)
    × (c.is_within_at-is_within.result ≡ is_within c.self.inside.range row)
next_else c =
    let rows = (arc_value c.self.inside.snapshot).rows in
    let long : length rows ≡ length c.args.self.now.rows = ap (λ (f : FeedState). length f.rows) c.self.view_is in
    let at : c.self.inside.next ≡ c.args.self.now.next = ap (λ (f : FeedState). f.next) c.self.view_is in
    told rows c.deref.result.now.rows c.self.inside.next c.self.inside.range c.is_within_at-is_within.result
    (ap (λ (s : SnapshotState). s.rows) c.deref.ensures) (omega (arith, long, at, c.requires)) c.is_within_at-is_within.ensures

next_then : (c : goal.After-pop_front) → (row : Write) × (slice_get (arc_value c.self.inside.snapshot).rows c.self.inside.next ≡ Some row)
    × (c.is_within_at-is_within.result ≡ is_within c.self.inside.range row)
next_then c =
    let rows = (arc_value c.self.inside.snapshot).rows in
    let long : length rows ≡ length c.args.self.now.rows = ap (λ (f : FeedState). length f.rows) c.self.view_is in
    let at : c.self.inside.next ≡ c.args.self.now.next = ap (λ (f : FeedState). f.next) c.self.view_is in
    told rows c.deref.result.now.rows c.self.inside.next c.self.inside.range c.is_within_at-is_within.result
    (ap (λ (s : SnapshotState). s.rows) c.deref.ensures) (omega (arith, long, at, c.requires)) c.is_within_at-is_within.ensures

pub invariant_of-self-else-is_within : goal.invariant_of-self-else-is_within
invariant_of-self-else-is_within c =
    let rows = (arc_value c.self.inside.snapshot).rows in
    let here = next_else c in
    let outside : is_within c.self.inside.range here.0 ≡ false = sym here.2 ∙ c.if-is_within.false in
    let long : length rows ≡ length c.args.self.now.rows = ap (λ (f : FeedState). length f.rows) c.self.view_is in
    let at : c.self.inside.next ≡ c.args.self.now.next = ap (λ (f : FeedState). f.next) c.self.view_is in (
      c.self.invariant.0 ∙ left-passed c.self.inside.range rows c.self.inside.next here.0 here.1 outside,
      omega (arith, long, at, c.requires),
      c.self.invariant.2,
    )

-- and its share, where it is in the range
row_fed : (c : goal.After-pop_front)
    → (map arc_value c.pop_front.new.self.items
    ≡ filter (is_within c.self.inside.range) (drop (c.self.inside.next + 1) (arc_value c.self.inside.snapshot).rows))
    × (option_map arc_value c.pop_front.result ≡ Some (next_then c).0)
row_fed c =
    let rows = (arc_value c.self.inside.snapshot).rows in
    let here = next_then c in
    let inside : is_within c.self.inside.range here.0 ≡ true = sym here.2 ∙ c.if-is_within.true in
    first_share c.self.inside.shares.items c.pop_front.new.self.items c.pop_front.result here.0 _
    (c.self.invariant.0 ∙ left-first c.self.inside.range rows c.self.inside.next here.0 here.1 inside)
    c.pop_front.ensures.items (λ some. c.pop_front.ensures.variant.1 (omega (arith, some, c.self.inside.shares.ok.0)))

pub invariant_of-self : goal.invariant_of-self
invariant_of-self c =
    let rows = (arc_value c.self.inside.snapshot).rows in
    let long : length rows ≡ length c.args.self.now.rows = ap (λ (f : FeedState). length f.rows) c.self.view_is in
    let at : c.self.inside.next ≡ c.args.self.now.next = ap (λ (f : FeedState). f.next) c.self.view_is in (
      (row_fed c).0,
      omega (arith, long, at, c.requires),
      c.self.invariant.2,
    )

pub returns-then-is_within-clause-row : goal.returns-then-is_within-clause-row
returns-then-is_within-clause-row c row there =
    let here = next_then c in
    let found : slice_get c.args.self.now.rows c.args.self.now.next ≡ Some here.0 =
    ap (λ (f : FeedState). slice_get f.rows f.next) (sym c.self.view_is) ∙ here.1 in
    let same : here.0 ≡ row = same_Some here.0 row (sym found ∙ there) in
    let inside : is_within c.args.self.now.range row ≡ true =
    ap (λ (f : FeedState). is_within f.range row) (sym c.self.view_is)
    ∙ ap (is_within c.self.inside.range) (sym same) ∙ sym here.2 ∙ c.if-is_within.true in
    (row_fed c).1 ∙ ap (λ w. Some w) same ∙ ap (λ (b : Bool). if b then Some row else None) (sym inside)
