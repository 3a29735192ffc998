-- Passes stay new as others are split off them, and the numbers of a server are in their ranges.
use Rattle.std.proofs.Common.{◌≡◌, ◌≤◌, ◌∙◌, ℕ, Bool, true, ◌&&◌, List, length, ap, arith}
use Rattle.std.specs.Prelude.{nat_le}
use Rattle.std.proofs.lemmas.Bool.{and_parts}
use Rattle.std.proofs.lemmas.Bool.Decides.{nat_tests}
use Rattle.std.proofs.lemmas.List.Elements.{All-weaker}
use Rattle.sc_record.specs.declared.entry.Entry.{Entry}
use Rattle.sc_lock.specs.Tokens.{splits_left}
use Rattle.sc_seen.specs.declared.board.BoardEntry.{BoardEntry}
use Rattle.sc_collection.specs.Shapes.{is_shape, IsShape, is_in_range}
use Rattle.sc_arguments.specs.declared.asked.Server.{Server}
use Rattle.sc_arguments.specs.Arguments.{most_connections, greatest_port, most_workers, IsServer}
use Rattle.sc_shared.specs.declared.passes.Passes.{Passes}
use Rattle.sc_shared.specs.Passes.{BucketPass, seen_of, CanSplit}
use Rattle.sc_shared.specs.Collections.{Locks, SeesTheSame, SeesOthers}
use Rattle.sc_shared.specs.Sharing.{ArePasses}
use Rattle.sc_server.specs.Needs.{AreNew}

-- the numbers of a server that its making needs
pub record HasNumbers (server : Server) : Type 0 where
  pub shape : IsShape server.shape
  pub workers : (1 ≤ server.workers) × (server.workers ≤ most_workers)
  pub most : 1 ≤ server.max_connections

in_range : (least most number : ℕ) → is_in_range least most number ≡ true → (least ≤ number) × (number ≤ most)
in_range least most number is =
    let both = and_parts (nat_le least number) (nat_le number most) is in
    let from = both.0 in
    let to = both.1 in
    (grind (arith, nat_tests, from), grind (arith, nat_tests, to))

pub numbers : (server : Server) → IsServer server → HasNumbers server
numbers server is =
    let shape : Bool = is_shape server.shape in
    let port : Bool = is_in_range 1 greatest_port server.port in
    let workers : Bool = is_in_range 1 most_workers server.workers in
    let connections : Bool = is_in_range 1 most_connections server.max_connections in
    let third = and_parts (shape && port && workers) connections is in
    let second = and_parts (shape && port) workers third.0 in
    let first = and_parts shape port second.0 in
    record {
      shape = first.0;
      workers = in_range 1 most_workers server.workers second.1;
      most = (in_range 1 most_connections server.max_connections third.1).0;
    }

-- passes that have seen the same have seen nothing still
pub still_new : (locks : Locks) (old new : Passes) → AreNew locks old → ArePasses locks new → SeesTheSame (seen_of old) (seen_of new)
    → AreNew locks new
still_new locks old new is are same = record {
  are = are;
  opened = is.opened;
  seen = record {
    journals = λ lock. ap (λ (journal : List Entry). length journal) (same.journals lock) ∙ is.seen.journals lock;
    board = ap (λ (entries : List BoardEntry). length entries) same.board ∙ is.seen.board;
    own = λ lock. same.own lock ∙ is.seen.own lock;
  };
}

-- and so have those that were split off them
pub new_too : (locks : Locks) (old other : Passes) → AreNew locks old → ArePasses locks other → SeesOthers (seen_of old) (seen_of other)
    → AreNew locks other
new_too locks old other is are others = record {
  are = are;
  opened = is.opened;
  seen = record {
    journals = λ lock. ap (λ (journal : List Entry). length journal) (others.journals lock) ∙ is.seen.journals lock;
    board = ap (λ (entries : List BoardEntry). length entries) others.board ∙ is.seen.board;
    own = others.own;
  };
}

-- off which more can be split fewer can be split too
pub fewer_splits : (more fewer : ℕ) (passes : Passes) → fewer ≤ more → CanSplit more passes → CanSplit fewer passes
fewer_splits more fewer passes less can = record {
  buckets = All-weaker (λ (pass : BucketPass). more ≤ splits_left pass) (λ (pass : BucketPass). fewer ≤ splits_left pass)
      (λ pass enough. omega (arith, enough, less)) passes.buckets.items can.buckets;
  board = omega (arith, can.board, less);
}
