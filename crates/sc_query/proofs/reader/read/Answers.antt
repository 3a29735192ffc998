-- The loop reads the tokens of the text one by one.
use Rattle.std.proofs.Common.{◌≡◌, ◌+◌, ◌-◌, ◌<◌, Option, Some, None, option_to_list, Err, List, [], ◌∷◌, ◌++◌, length, refl, sym, ap, ◌∙◌, arith, false-eqb}
use Rattle.std.proofs.lemmas.Bool.{eqb-true}
use Rattle.std.proofs.lemmas.Result.{err_from_is_err_and}
use Rattle.std.proofs.lemmas.Str.{IsCharBoundary-start}
use Rattle.sc_query.specs.declared.fault.QueryFault.{QueryFault}
use Rattle.sc_query.specs.declared.fault.QueryFault.TheVariants.{At}
use Rattle.sc_query.specs.declared.query.Query.TheVariants.{All}
use Rattle.sc_query.specs.declared.reader.Level.{Level}
use Rattle.sc_query.specs.Tokens.{plain, tokens}
use Rattle.sc_query.specs.Tree.{tree_of}
use Rattle.sc_query.proofs.Reading.{Reader, before_of, outer_of, reader_of, empty}
use Rattle.sc_query.proofs.Runs.{run}
use Rattle.sc_query.proofs.OutcomeLemmas.{tree_found}
use Rattle.sc_query.proofs.StepsLemmas.{IsConjunction, IsWhole, read_on, refused, fault_at, ended, still_none, opens_none, step_open, step_not, step_leaf, no_operand, step_and, step_or, step_close, no_level, step_close-none, no_operator, finish-open, finish-whole}
use Rattle.sc_query.proofs.reader.read.Goals as goal

pub loop-lexeme-init : goal.loop-lexeme-init
loop-lexeme-init c =
    let text = c.args.text.now in
    let start = λ (outer : List Level) (level : Level). run (length text)
    (Reader.Operand (outer_of outer) (before_of level)) (tokens text) in
    record {
      boundary = IsCharBoundary-start text c.utf8.text;
      same = ap (λ (l : Level). start c.new-outer.result.items l) c.new-level.ensures
          ∙ ap (λ (xs : List Level). run (length text) (Reader.Operand (outer_of xs) (empty 32)) (tokens text))
          c.new-outer.ensures.items;
    }

pub returns-in_err-room-in-Open-clause-fault : goal.returns-in_err-room-in-Open-clause-fault
returns-in_err-room-in-Open-clause-fault c =
    let outer = c.loop-lexeme.outer.items in
    let level = c.loop-lexeme.level in
    let at = c.in-Some.field-0.at in
    let room = level.room - (level.negations + 1) in
    let none = opens_none level c.in_err-room-in-Open.field-0.0 room at
    (Reader.Operand (before_of level ∷ outer_of outer) (empty room)) c.in_err-room-in-Open.ensures in
    let error = err_from_is_err_and c.from_residual.result c.from_residual.ensures.1 in
    let given : c.from_residual.result ≡ Err (At at) = error.1
    ∙ ap (λ (fault : QueryFault). Err fault) (error.2 ∙ none.0) in
    refused c.args.text.now outer level c.from_residual.result c.requires c.in-Some.ensures.some
    c.loop-lexeme.invariant.same c.in-None.is c.in-Open.is none.1 given

pub loop-lexeme-preserved-in-Open : goal.loop-lexeme-preserved-in-Open
loop-lexeme-preserved-in-Open c =
    let outer = c.loop-lexeme.outer.items in
    let level = c.loop-lexeme.level in
    let at = c.in-Some.field-0.at in
    let levels = c.push.new.self.items in
    let inner = c.new-level-in-Open.result in
    let step = step_open outer levels level inner c.in_ok-room-in-Open.room at c.in_ok-room-in-Open.ensures
    c.in_ok-push-in-Open.ensures.items c.new-level-in-Open.ensures in
    record {
      boundary = c.in-Some.ensures.boundary;
      same = read_on (length c.args.text.now) outer level (reader_of levels inner c.loop-lexeme.operand)
          c.in-Some.ensures.some c.loop-lexeme.invariant.same c.in-None.is c.in-Open.is
          (still_none levels inner c.in-None.is step);
    }

pub returns-in_err-level-in-Not-clause-fault : goal.returns-in_err-level-in-Not-clause-fault
returns-in_err-level-in-Not-clause-fault c =
    let outer = c.loop-lexeme.outer.items in
    let level = c.loop-lexeme.level in
    let at = c.in-Some.field-0.at in
    let next : Level = record level { negations = level.negations + 1 } in
    let none = opens_none level c.in_err-level-in-Not.field-0.0 next at
    (Reader.Operand (outer_of outer) (before_of next)) c.in_err-level-in-Not.ensures in
    let error = err_from_is_err_and c.from_residual-in_err-level-in-Not.result
    c.from_residual-in_err-level-in-Not.ensures.1 in
    let given : c.from_residual-in_err-level-in-Not.result ≡ Err (At at) = error.1
    ∙ ap (λ (fault : QueryFault). Err fault) (error.2 ∙ none.0) in
    refused c.args.text.now outer level c.from_residual-in_err-level-in-Not.result c.requires
    c.in-Some.ensures.some c.loop-lexeme.invariant.same c.in-None.is c.in-Not.is none.1 given

pub loop-lexeme-preserved-in-Not : goal.loop-lexeme-preserved-in-Not
loop-lexeme-preserved-in-Not c =
    let outer = c.loop-lexeme.outer.items in
    let level = c.loop-lexeme.level in
    let at = c.in-Some.field-0.at in
    let next = c.in_ok-level-in-Not.level in
    let step = step_not outer level next at c.in_ok-level-in-Not.ensures in
    record {
      boundary = c.in-Some.ensures.boundary;
      same = read_on (length c.args.text.now) outer level (reader_of outer next c.loop-lexeme.operand)
          c.in-Some.ensures.some c.loop-lexeme.invariant.same c.in-None.is c.in-Not.is
          (still_none outer next c.in-None.is step);
    }

pub loop-lexeme-preserved-in-Every : goal.loop-lexeme-preserved-in-Every
loop-lexeme-preserved-in-Every c =
    let outer = c.loop-lexeme.outer.items in
    let level = c.loop-lexeme.level in
    record {
      boundary = c.in-Some.ensures.boundary;
      same = read_on (length c.args.text.now) outer level (reader_of outer level (Some All))
          c.in-Some.ensures.some c.loop-lexeme.invariant.same c.in-None.is c.in-Every.is refl;
    }

pub loop-lexeme-preserved-in-Leaf : goal.loop-lexeme-preserved-in-Leaf
loop-lexeme-preserved-in-Leaf c =
    let outer = c.loop-lexeme.outer.items in
    let level = c.loop-lexeme.level in
    let at = c.in-Some.field-0.at in
    let query = c.in_ok-leaf-in-Leaf.field-0 in
    let step = step_leaf outer level query c.in-Leaf.field.now (plain c.in-Leaf.value.now) at
    c.in_ok-leaf-in-Leaf.ensures in
    record {
      boundary = c.in-Some.ensures.boundary;
      same = read_on (length c.args.text.now) outer level (reader_of outer level (Some query))
          c.in-Some.ensures.some c.loop-lexeme.invariant.same c.in-None.is c.in-Leaf.is step;
    }

pub returns-in_default-lexeme-clause-fault : goal.returns-in_default-lexeme-clause-fault
returns-in_default-lexeme-clause-fault c =
    let outer = c.loop-lexeme.outer.items in
    let level = c.loop-lexeme.level in
    let at = c.in-Some.field-0.at in
    let none = no_operand outer level c.in-Some.field-0.lexeme at c.in_default-lexeme.not-Open
    c.in_default-lexeme.not-Not c.in_default-lexeme.not-Every c.in_default-lexeme.not-Leaf in
    refused c.args.text.now outer level (Err (At at)) c.requires c.in-Some.ensures.some
    c.loop-lexeme.invariant.same c.in-None.is refl none refl

pub loop-lexeme-preserved-in-And : goal.loop-lexeme-preserved-in-And
loop-lexeme-preserved-in-And c =
    let outer = c.loop-lexeme.outer.items in
    let level = c.loop-lexeme.level in
    let at = c.in-Some.field-0.at in
    let conjunction : IsConjunction level c.in-Some-operand.query c.in_ok-query-in-Some-operand.query =
    (c.in_ok-query-in-Some-operand.ensures.alone, c.in_ok-query-in-Some-operand.ensures.joined) in
    let inner = c.new-level-in-And.result in
    let step = step_and outer level inner c.in-Some-operand.query c.in_ok-query-in-Some-operand.query at
    conjunction c.new-level-in-And.ensures in
    record {
      boundary = c.in-Some.ensures.boundary;
      same = read_on (length c.args.text.now) outer level (reader_of outer inner None) c.in-Some.ensures.some
          c.loop-lexeme.invariant.same c.in-Some-operand.is c.in-And.is step;
    }

pub loop-lexeme-preserved-in-Or : goal.loop-lexeme-preserved-in-Or
loop-lexeme-preserved-in-Or c =
    let outer = c.loop-lexeme.outer.items in
    let level = c.loop-lexeme.level in
    let at = c.in-Some.field-0.at in
    let conjunction : IsConjunction level c.in-Some-operand.query c.in_ok-query-in-Some-operand.query =
    (c.in_ok-query-in-Some-operand.ensures.alone, c.in_ok-query-in-Some-operand.ensures.joined) in
    let whole : IsWhole level c.in_ok-query-in-Some-operand.query c.in_ok-query-in-Or.query =
    (c.in_ok-query-in-Or.ensures.alone, c.in_ok-query-in-Or.ensures.joined) in
    let inner = c.new-level-in-Or.result in
    let step = step_or outer level inner c.in-Some-operand.query c.in_ok-query-in-Some-operand.query
    c.in_ok-query-in-Or.query at conjunction whole c.new-level-in-Or.ensures in
    record {
      boundary = c.in-Some.ensures.boundary;
      same = read_on (length c.args.text.now) outer level (reader_of outer inner None) c.in-Some.ensures.some
          c.loop-lexeme.invariant.same c.in-Some-operand.is c.in-Or.is step;
    }

pub returns-in_err-level-in-Close-clause-fault : goal.returns-in_err-level-in-Close-clause-fault
returns-in_err-level-in-Close-clause-fault c =
    let outer = c.loop-lexeme.outer.items in
    let level = c.loop-lexeme.level in
    let at = c.in-Some.field-0.at in
    let none = no_level c.pop.result c.in_err-level-in-Close.field-0.0 at c.in_err-level-in-Close.ensures.value in
    let error = err_from_is_err_and c.from_residual-in_err-level-in-Close.result
    c.from_residual-in_err-level-in-Close.ensures.1 in
    let given : c.from_residual-in_err-level-in-Close.result ≡ Err (At at) = error.1
    ∙ ap (λ (fault : QueryFault). Err fault) (error.2 ∙ none.0) in
    let cases = rw none.1 at c.pop.ensures.cases in
    let step = step_close-none outer level c.in-Some-operand.query at (sym c.loop-lexeme.outer.ok.0 ∙ cases.0) in
    refused c.args.text.now outer level c.from_residual-in_err-level-in-Close.result c.requires
    c.in-Some.ensures.some c.loop-lexeme.invariant.same c.in-Some-operand.is c.in-Close.is step given

pub loop-lexeme-preserved : goal.loop-lexeme-preserved
loop-lexeme-preserved c =
    let outer = c.loop-lexeme.outer.items in
    let level = c.loop-lexeme.level in
    let at = c.in-Some.field-0.at in
    let conjunction : IsConjunction level c.in-Some-operand.query c.in_ok-query-in-Some-operand.query =
    (c.in_ok-query-in-Some-operand.ensures.alone, c.in_ok-query-in-Some-operand.ensures.joined) in
    let whole : IsWhole level c.in_ok-query-in-Some-operand.query c.in_ok-or_with-in-Close.field-0 =
    (c.in_ok-or_with-in-Close.ensures.alone, c.in_ok-or_with-in-Close.ensures.joined) in
    let levels = c.pop.new.self.items in
    let before = c.in_ok-level-in-Close.level in
    let popped : outer ≡ levels ++ before ∷ [] = c.pop.ensures.items
    ∙ ap (λ (x : Option Level). levels ++ option_to_list x) c.in_ok-level-in-Close.ensures.ok_part in
    let query = c.in_ok-or_with-in-Close.field-0 in
    let step = step_close outer levels level before c.in-Some-operand.query c.in_ok-query-in-Some-operand.query
    query at conjunction whole popped in
    record {
      boundary = c.in-Some.ensures.boundary;
      same = read_on (length c.args.text.now) outer level (reader_of levels before (Some query))
          c.in-Some.ensures.some c.loop-lexeme.invariant.same c.in-Some-operand.is c.in-Close.is step;
    }

pub returns-in_default-lexeme-2 : goal.returns-in_default-lexeme-2
returns-in_default-lexeme-2 c =
    let outer = c.loop-lexeme.outer.items in
    let level = c.loop-lexeme.level in
    let at = c.in-Some.field-0.at in
    let none = no_operator outer level c.in-Some-operand.query c.in-Some.field-0.lexeme at
    c.in_default-lexeme-2.not-Close c.in_default-lexeme-2.not-And c.in_default-lexeme-2.not-Or in
    record {
      tree = tt;
      fault = refused c.args.text.now outer level (Err (At at)) c.requires
          c.in-Some.ensures.some c.loop-lexeme.invariant.same c.in-Some-operand.is refl none refl;
    }

pub returns-in-None-operand-clause-fault : goal.returns-in-None-operand-clause-fault
returns-in-None-operand-clause-fault c =
    let text = c.args.text.now in
    let end = length text in
    let outer = c.loop-lexeme.outer in
    let level = c.loop-lexeme.level in
    let finished = ended end outer.items level c.in_default.ensures.none c.in-None-operand.is
    c.loop-lexeme.invariant.same in
    fault_at text end (Err (At end)) c.requires finished refl

pub returns-then-not-is_empty-clause-fault : goal.returns-then-not-is_empty-clause-fault
returns-then-not-is_empty-clause-fault c =
    let text = c.args.text.now in
    let end = length text in
    let outer = c.loop-lexeme.outer in
    let level = c.loop-lexeme.level in
    let finished = ended end outer.items level c.in_default.ensures.none c.in-Some-operand-2.is
    c.loop-lexeme.invariant.same in
    let some : 0 < length outer.items = omega (arith, outer.ok.0, false-eqb outer.len 0 c.if-not-is_empty.ensures) in
    fault_at text end (Err (At end)) c.requires (finished ∙ finish-open outer.items level
    c.in-Some-operand-2.query end some) refl

pub returns-clause-tree : goal.returns-clause-tree
returns-clause-tree c =
    let text = c.args.text.now in
    let end = length text in
    let outer = c.loop-lexeme.outer in
    let level = c.loop-lexeme.level in
    let finished = ended end outer.items level c.in_default.ensures.none c.in-Some-operand-2.is
    c.loop-lexeme.invariant.same in
    let none : length outer.items ≡ 0 = sym outer.ok.0 ∙ eqb-true outer.len 0 (sym c.if-not-is_empty.ensures) in
    let conjunction : IsConjunction level c.in-Some-operand-2.query c.in_ok-query-in-Some-operand-2.query =
    (c.in_ok-query-in-Some-operand-2.ensures.alone, c.in_ok-query-in-Some-operand-2.ensures.joined) in
    let whole : IsWhole level c.in_ok-query-in-Some-operand-2.query c.in_ok-or_with-in-Some-operand-2.field-0 =
    (c.in_ok-or_with-in-Some-operand-2.ensures.alone, c.in_ok-or_with-in-Some-operand-2.ensures.joined) in
    let query = c.in_ok-or_with-in-Some-operand-2.field-0 in
    tree_found text (tree_of query) c.requires (finished ∙ finish-whole outer.items level
    c.in-Some-operand-2.query c.in_ok-query-in-Some-operand-2.query query end none conjunction whole)
