-- What options ask for has each of its numbers in its range.
use Rattle.std.proofs.Common.{◌≡◌, ◌≤◌, ℕ, Bool, true, false, ◌&&◌, Some, None, cond, refl, subst, arith}
use Rattle.std.proofs.lemmas.Bool.Decides.{nat_tests}
use Rattle.sc_collection.specs.declared.shape.Shape.{Shape}
use Rattle.sc_collection.specs.Shapes.{is_shape, IsShape, is_in_range}
use Rattle.sc_arguments.specs.declared.asked.Server.{Server}
use Rattle.sc_arguments.specs.declared.asked.Demo.{Demo}
use Rattle.sc_arguments.specs.Arguments.{most_connections, greatest_port, most_workers, IsServer, most_orders, IsDemo}

pub asked_is_shape : (shape asked : Shape) → Some shape ≡ cond (is_shape asked) (Some asked) None → IsShape shape
asked_is_shape shape asked found = by (is_shape asked) refl found where
  by : (t : Bool) → is_shape asked ≡ t → Some shape ≡ cond t (Some asked) None → IsShape shape
  by true is found =
      let same : asked ≡ shape = cc in
      subst IsShape same is
  by false is found = absurd (cc)

in_range : (least most number : ℕ) → (least ≤ number) × (number ≤ most) → is_in_range least most number ≡ true
in_range least most number within = grind (arith, nat_tests)

four_true : (a b c d : Bool) → a ≡ true → b ≡ true → c ≡ true → d ≡ true → (a && b && c && d) ≡ true
four_true a b c d ha hb hc hd = rw ha (rw hb (rw hc hd))

-- it can be run where its shape is one that a collection may have, and each of its own numbers is in its range
pub server_in_range : (server : Server) → IsShape server.shape → (1 ≤ server.port) × (server.port ≤ greatest_port)
    → (1 ≤ server.workers) × (server.workers ≤ most_workers) → (1 ≤ server.max_connections) × (server.max_connections ≤ most_connections) → IsServer server
server_in_range server shape port workers connections =
    four_true (is_shape server.shape) (is_in_range 1 greatest_port server.port) (is_in_range 1 most_workers server.workers) (is_in_range 1 most_connections server.max_connections)
    shape (in_range 1 greatest_port server.port port) (in_range 1 most_workers server.workers workers) (in_range 1 most_connections server.max_connections connections)

two_true : (a b : Bool) → a ≡ true → b ≡ true → (a && b) ≡ true
two_true a b ha hb = rw ha hb

-- it can be made where each of its numbers is in its range
pub demo_in_range : (demo : Demo) → (1 ≤ demo.count) × (demo.count ≤ most_orders) → (1 ≤ demo.workers) × (demo.workers ≤ most_workers) → IsDemo demo
demo_in_range demo count workers =
    two_true (is_in_range 1 most_orders demo.count) (is_in_range 1 most_workers demo.workers) (in_range 1 most_orders demo.count count) (in_range 1 most_workers demo.workers workers)
