use Rattle.std.proofs.Common.{◌≡◌, ◌∙◌, ap, sym, subst, codes, option_map, map, string_bytes, ℕ, List, refl}
use Rattle.std.specs.Prelude.{Option, Some, None, unwrap_or}
use Rattle.std.proofs.lemmas.Result.{err_from_is_err_and}
use Rattle.clap.specs.declared.parser.matches.Found.{Found}
use Rattle.clap.specs.Words.{Text, first_of, first_value, found_of, matches_of, rows_of}
use Rattle.clap.proofs.WalkLemmas.{first_value-rows}
use Rattle.span_words.specs.Words.{AsksFor, AsksForOr, spanbase_app, text_of}
use Rattle.span_words.proofs.words.read_words.Goals as goal

with_default : (least most default : ℕ) (text : Option Text) (number : Option ℕ) → AsksFor least most text number → AsksForOr least most default text (unwrap_or number default)
with_default least most default None number none = ap (λ n. unwrap_or n default) none
with_default least most default (Some text) None none = absurd none
with_default least most default (Some text) (Some number) is = is

without_default : (least most default : ℕ) (text : Option Text) (number : ℕ) → AsksForOr least most default text number → (given : Option ℕ) × AsksFor least most text given
without_default least most default None number is = (None, refl)
without_default least most default (Some text) number is = (Some number, is)

kept_text : (found : Found) (name : Text) (words : List Text) (text : Option Text) → text ≡ first_value found name → rows_of found ≡ matches_of spanbase_app words → text ≡ text_of name words
kept_text found name words text first rows = first ∙ first_value-rows found name ∙ ap (first_of name) rows

unasked : (least most default : ℕ) (name : Text) (words : List Text) (text : Option Text) → text ≡ text_of name words → ((given : Option ℕ) → AsksFor least most text given → ⊥) → (number : ℕ) → AsksForOr least most default (text_of name words) number → ⊥
unasked least most default name words text kept none number asked =
    let given = without_default least most default (text_of name words) number asked in
    none given.0 (subst (λ (t : Option Text). AsksFor least most t given.0) (sym kept) given.1)

pub returns-in_err-workers-in-Ok-clause-refused : goal.returns-in_err-workers-in-Ok-clause-refused
returns-in_err-workers-in-Ok-clause-refused c =
    let exit = err_from_is_err_and c.from_residual.result c.from_residual.ensures.1 in
    let text = kept_text (found_of c.in-Ok.matches) (codes "workers") (map string_bytes c.args.words.now) _ c.get_str.ensures c.in-Ok.ensures.matches in
    rw (exit.1) (λ why workers states demo asked. unasked 1 64 1 (codes "workers") (map string_bytes c.args.words.now) _ text c.in_err-workers-in-Ok.ensures.err workers asked.workers_asked)

pub returns-in_err-states-in-Ok-clause-refused : goal.returns-in_err-states-in-Ok-clause-refused
returns-in_err-states-in-Ok-clause-refused c =
    let exit = err_from_is_err_and c.from_residual-in_err-states-in-Ok.result c.from_residual-in_err-states-in-Ok.ensures.1 in
    let text = kept_text (found_of c.in-Ok.matches) (codes "states") (map string_bytes c.args.words.now) _ c.get_str-in-Ok.ensures c.in-Ok.ensures.matches in
    rw (exit.1) (λ why workers states demo asked. unasked 128 1024 128 (codes "states") (map string_bytes c.args.words.now) _ text c.in_err-states-in-Ok.ensures.err states asked.states_asked)

pub returns-in_err-demo-in-Ok-clause-refused : goal.returns-in_err-demo-in-Ok-clause-refused
returns-in_err-demo-in-Ok-clause-refused c =
    let exit = err_from_is_err_and c.from_residual-in_err-demo-in-Ok.result c.from_residual-in_err-demo-in-Ok.ensures.1 in
    let text = kept_text (found_of c.in-Ok.matches) (codes "demo") (map string_bytes c.args.words.now) _ c.get_str-in-Ok-2.ensures c.in-Ok.ensures.matches in
    rw (exit.1) (λ why workers states demo asked. c.in_err-demo-in-Ok.ensures.err demo (subst (λ (t : Option Text). AsksFor 1 46 t demo) (sym text) asked.demo_asked))

pub returns-in_ok-demo-in-Ok-clause-taken : goal.returns-in_ok-demo-in-Ok-clause-taken
returns-in_ok-demo-in-Ok-clause-taken c =
    let ws = map string_bytes c.args.words.now in
    let workers = kept_text (found_of c.in-Ok.matches) (codes "workers") ws _ c.get_str.ensures c.in-Ok.ensures.matches in
    let states = kept_text (found_of c.in-Ok.matches) (codes "states") ws _ c.get_str-in-Ok.ensures c.in-Ok.ensures.matches in
    let demo = kept_text (found_of c.in-Ok.matches) (codes "demo") ws _ c.get_str-in-Ok-2.ensures c.in-Ok.ensures.matches in
    let workers_in = with_default 1 64 1 (option_map (λ s. s.now) c.get_str.result) c.in_ok-workers-in-Ok.workers c.in_ok-workers-in-Ok.ensures.ok in
    let states_in = with_default 128 1024 128 (option_map (λ s. s.now) c.get_str-in-Ok.result) c.in_ok-states-in-Ok.states c.in_ok-states-in-Ok.ensures.ok in
    record {
      taken = c.in-Ok.ensures.taken;
      workers_asked = subst (λ (n : ℕ). AsksForOr 1 64 1 (text_of (codes "workers") ws) n) (sym c.unwrap_or.ensures)
          (subst (λ (t : Option Text). AsksForOr 1 64 1 t (unwrap_or c.in_ok-workers-in-Ok.workers 1)) workers workers_in);
      states_asked = subst (λ (n : ℕ). AsksForOr 128 1024 128 (text_of (codes "states") ws) n) (sym c.unwrap_or-in-Ok.ensures)
          (subst (λ (t : Option Text). AsksForOr 128 1024 128 t (unwrap_or c.in_ok-states-in-Ok.states 128)) states states_in);
      demo_asked = subst (λ (t : Option Text). AsksFor 1 46 t c.in_ok-demo-in-Ok.demo) demo c.in_ok-demo-in-Ok.ensures.ok;
    }
