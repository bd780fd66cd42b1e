use Rattle.access.proofs.Laws.{marks_at, trail_one, trail_two}
use Rattle.std.proofs.Common.{rules, ◌≡◌, refl, None, MatchResult}
use Rattle.paging.specs.declared.Reached.{Reached}
use Rattle.access.proofs.View.code_trail.Goals as goal

pub returns-then-eip-n-le4096 : goal.returns-then-eip-n-le4096
returns-then-eip-n-le4096 c =
    let k = c.map_or-first.result in
    let marks : MatchResult c.translate.result (λ (x : Reached). k ≡ x.entries) (λ _. k ≡ None) = search (rules, c.map_or-first.ensures) in
    trail_one _ c.args.self.now.size _ c.args.eip (search rules) _ _ _ c.requires.0 c.requires.1 c.if-eip-n-le4096.true c.translate.ensures (marks_at _ _ marks)

pub returns : goal.returns
returns c =
    let k = c.map_or-first.result in
    let j = c.map_or-last.result in
    let marks : MatchResult c.translate.result (λ (x : Reached). k ≡ x.entries) (λ _. k ≡ None) = search (rules, c.map_or-first.ensures) in
    let last : MatchResult c.translate-2.result (λ (x : Reached). j ≡ x.entries) (λ _. j ≡ None) = search (rules, c.map_or-last.ensures) in
    trail_two _ c.args.self.now.size _ c.args.eip (search rules) _ _ _ _ _ _ c.requires.0 c.requires.1 refl c.translate.ensures (marks_at _ _ marks) c.translate-2.ensures (marks_at _ _ last)
