use Rattle.std.proofs.Common.{◌≡◌, ◌++◌, ◌∷◌, ◌∙◌, ◌+◌, [], ℕ, List, drop, ap}
use Rattle.std.specs.List.{flat_map}
use Rattle.report_text.specs.Reply.{after_space}
use Rattle.report_text.proofs.Vars.{next_name}
use Rattle.report_text.proofs.reply.query_line_of.Goals as goal

pub loop-v-preserved : goal.loop-v-preserved
loop-v-preserved c =
    let e = next_name c.loop-v.line.items c.args.vars.now c.loop-v.v c.name.result.now c.name.ensures in
    let items : c.extend_from_slice-in-loop-v.new.self.items ≡ (c.loop-v.line.items ++ 32 ∷ []) ++ c.name.result.now =
    c.in_ok-extend_from_slice-3.ensures.items ∙ ap (λ (l : List ℕ). l ++ c.bytes-in-loop-v.result.now) c.in_ok-push.ensures.items
    ∙ ap (λ (b : List ℕ). (c.loop-v.line.items ++ 32 ∷ []) ++ b) c.bytes-in-loop-v.ensures.value in
    ap (λ (l : List ℕ). l ++ (flat_map after_space (drop (c.loop-v.v + 1) c.args.vars.now) ++ 10 ∷ [])) items ∙ e ∙ c.loop-v.invariant
