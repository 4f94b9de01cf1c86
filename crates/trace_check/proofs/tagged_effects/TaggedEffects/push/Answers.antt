use Rattle.std.proofs.Common.{◌≡◌, ◌++◌, ◌∷◌, [], refl, sym, ap, ◌∙◌, arith}
use Rattle.trace_check.specs.Tags.{tag_by}
use Rattle.trace_check.proofs.Tagged.{idle_tag, access_tag, kept_idle, kept_access}
use Rattle.trace_check.proofs.tagged_effects.TaggedEffects.push.Goals as goal

pub returns-then-tag-eq0 : goal.returns-then-tag-eq0
returns-then-tag-eq0 c =
    let e : c.tag_of-tag.result ≡ tag_by c.args.parts c.args.effect.want = c.tag_of-tag.ensures ∙ ap (tag_by c.args.parts) c.want.ensures in
    λ did k. kept_idle c.args.parts did c.args.effect c.args.self.now (record { tags = c.push.new.self; accesses = c.args.self.now.accesses }) k
    (c.in_ok-push.ensures.items ∙ ap (λ x. c.args.self.now.tags.items ++ x ∷ []) e) (idle_tag c.args.parts c.args.effect.want (sym e ∙ c.if-tag-eq0.true)) refl

pub returns : goal.returns
returns c =
    let e : c.tag_of-tag.result ≡ tag_by c.args.parts c.args.effect.want = c.tag_of-tag.ensures ∙ ap (tag_by c.args.parts) c.want.ensures in
    let f = c.if-tag-eq0.false in
    λ did k. kept_access c.args.parts did c.args.effect c.args.self.now (record { tags = c.push.new.self; accesses = c.push-2.new.self }) k
    (c.in_ok-push.ensures.items ∙ ap (λ x. c.args.self.now.tags.items ++ x ∷ []) e) (access_tag c.args.parts c.args.effect.want (omega (arith, e, f))) c.in_ok-push-2.ensures.items
