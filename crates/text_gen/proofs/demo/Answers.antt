use Rattle.std.proofs.Common.{rules, ◌≡◌, ◌∙◌, ◌^◌, ◌≤◌, ◌++◌, ap, subst, sym, arith, length}
use Rattle.std.specs.List.{flat_map}
use Rattle.text_gen.specs.Demo.{ended, last_lines, demo_text}
use Rattle.text_gen.proofs.Script.{whole, so_far, short_demo}
use Rattle.text_gen.proofs.demo.Goals as goal

pub returns-clause-script : goal.returns-clause-script
returns-clause-script c =
    let all : c.doublings.counter ≡ c.args.n = omega arith in
    let appended : c.extend_from_slice-2.new.self.items ≡ c.doublings.script.items ++ flat_map ended last_lines = search rules in
    appended ∙ ap (λ prefix. prefix ++ flat_map ended last_lines) (c.doublings.invariant ∙ ap so_far all) ∙ whole c.args.n

pub returns-clause-short : goal.returns-clause-short
returns-clause-short c =
    let all : c.doublings.counter ≡ c.args.n = omega arith in
    let appended : c.extend_from_slice-2.new.self.items ≡ c.doublings.script.items ++ flat_map ended last_lines = search rules in
    let script : c.extend_from_slice-2.new.self.items ≡ demo_text c.args.n = appended ∙ ap (λ prefix. prefix ++ flat_map ended last_lines) (c.doublings.invariant ∙ ap so_far all) ∙ whole c.args.n in
    subst (λ s. length s ≤ 2 ^ 24) (sym script) (short_demo c.args.n c.requires.1)
