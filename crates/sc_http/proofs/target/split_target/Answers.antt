-- After no question mark there are no parameters.
use Rattle.std.proofs.Common.{◌≡◌, ◌+◌, ◌≤◌, length, map, sym, ap, ◌∙◌, arith}
use Rattle.std.specs.List.{position_or_len}
use Rattle.std.specs.Prelude.{◌==◌}
use Rattle.std.proofs.lemmas.List.{drop_all}
use Rattle.form_urlencoded.specs.Form.{raw_pairs}
use Rattle.form_urlencoded.proofs.FormLemmas.{raw_pairs-nil}
use Rattle.sc_model.specs.Heads.{param_of, question_mark}
use Rattle.sc_http.proofs.target.split_target.Goals as goal

pub returns-in_ok-new-in-None-clause-params : goal.returns-in_ok-new-in-None-clause-params
returns-in_ok-new-in-None-clause-params c =
    let none : position_or_len (λ b. b == question_mark) c.args.target.now ≡ length c.args.target.now = c.in-None.ensures.byte (omega arith) (λ w o h. h) in
    let past : length c.args.target.now ≤ position_or_len (λ b. b == question_mark) c.args.target.now + 1 = omega (arith, none) in
    c.new-in-None-2.ensures ∙ sym (ap (λ xs. map param_of (raw_pairs xs)) (drop_all (position_or_len (λ b. b == question_mark) c.args.target.now + 1) c.args.target.now past)
    ∙ ap (map param_of) raw_pairs-nil)
