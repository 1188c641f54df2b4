use Rattle.std.proofs.Common.{◌≡◌, ℕ, ap, ◌∙◌, rules}
use Rattle.hamming.specs.Hamming.{word_in}
use Rattle.hamming.proofs.Codes.{spread, spreads, coded_syndrome, coded_word, coded_lt}
use Rattle.hamming.proofs.encode.Goals as goal

pub returns : goal.returns
returns c =
    let b = c.from-bits.result in
    let s = c.syndrome-s.result in
    let low = c.syndrome-s.ensures.low in
    let is = c.syndrome-s.ensures.is in
    let held : word_in (spread b) ≡ c.args.w =
    ap (λ (x : ℕ). word_in (spread x)) (c.from-bits.ensures ∙ c.reverse_bits.ensures) ∙ spreads c.args.w (search rules) in
    record {
      sound = search (rules, coded_syndrome b s low is);
      below = search (rules, coded_lt b s low is);
      holds = search (rules, coded_word b s low is);
    }
