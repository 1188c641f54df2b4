use Rattle.std.proofs.Common.{◌∷◌, ◌++◌, [], take, get_or, sym, ap, ◌∙◌, rules, arith, append_assoc}
use Rattle.std.proofs.lemmas.List.{append-nil, take_more, take_all, flat_map_more}
use Rattle.std.proofs.Output.{has_written_append, has_written_of_eq}
use Rattle.writing.specs.Write.{line, octal, spaced}
use Rattle.writing.proofs.Figures.{octal_digits}
use Rattle.writing.proofs.lines.OctalLineDisplay.fmt.Goals as goal

pub loop-n-init : goal.loop-n-init
loop-n-init g c = λ p. let e = octal_digits c.args.self.now.first (omega arith) in search (rules, e, append-nil)

pub loop-n-preserved : goal.loop-n-preserved
loop-n-preserved g c = λ p.
    let ns = c.args.self.now.others.now in
    let i = c.loop-n.n-index in
    let n = get_or ns i 0 in
    let e = octal_digits n (search rules) in
    let so_far = octal c.args.self.now.first in
    has_written_of_eq _ _ _ _ _
    (flat_map_more (λ n. 32 ∷ octal n) so_far (take i ns) n ∙ ap (λ xs. so_far ++ spaced xs) (sym (take_more ns i 0 c.loop-n-test.true)))
    (has_written_append _ _ _ _ (32 ∷ octal n) _ (c.loop-n.invariant p) (search (rules, e)))

pub returns-clause-writes : goal.returns-clause-writes
unfolding line
returns-clause-writes g c = λ p ok.
    let ns = c.args.self.now.others.now in
    let so_far = octal c.args.self.now.first in
    let all = take_all c.loop-n.n-index ns c.loop-n-test.false in
    has_written_of_eq _ _ _ _ _
    (append_assoc so_far (spaced (take c.loop-n.n-index ns)) (10 ∷ []) ∙ ap (λ xs. so_far ++ (spaced xs ++ (10 ∷ []))) all)
    (has_written_append _ _ _ _ (10 ∷ []) _ (c.loop-n.invariant p) (search rules))
