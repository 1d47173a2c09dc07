use Rattle.std.proofs.Common.{◌≡◌, ℕ, true, false, refl, ap, ◌∙◌, rules, arith}
use Rattle.std.proofs.lemmas.Iterator.{cases_from_all, YieldsList-from_range}
use Rattle.definition.specs.Basics.{all, tab}
use Rattle.definition.specs.Tokens.{token_right}
use Rattle.token_stream.proofs.check.Walks.{each_told}
use Rattle.token_stream.proofs.list.TokenList.each_right.Goals as goal

pub returns : goal.returns
returns c =
    let a = c.args.self.now in
    let right = token_right a.list.now a.text.now in
    let n = c.count.result in
    each_told right n c.all.result
    (cases_from_all _ _ c.all.result (λ k. right k ≡ true) (λ k. right k ≡ false) c.all.ensures.ran (YieldsList-from_range 0 n n refl (omega arith))
    (λ x q d. search rules) (λ x q d. search rules))
    ∙ ap (λ (m : ℕ). all right (tab (λ k. k) 0 m)) c.count.ensures
