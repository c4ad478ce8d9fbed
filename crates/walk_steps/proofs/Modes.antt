-- What kinds of lease are beside each other.
use Rattle.std.proofs.Common.{◌≡◌, Bool, true, false, if◌then◌else◌, refl}
use Rattle.nq_base.specs.declared.Mode.{Mode}
use Rattle.nq_base.specs.declared.Mode.TheVariants.{NonCaching, Reading, Writing}
use Rattle.nq_model.specs.laws.LeaseInterval.{is_at_least}
use Rattle.nq_model.specs.protocol.Table.{caches, is_writing, greater_mode}

pub writing-caches : (mode : Mode) → is_writing mode ≡ true → caches mode ≡ true
writing-caches NonCaching h = cc
writing-caches Reading h = refl
writing-caches Writing h = refl

pub at-least-writing : (mode held : Mode) → is_writing held ≡ true → is_at_least mode held ≡ true → is_writing mode ≡ true
at-least-writing mode Writing w h = h
at-least-writing mode Reading w h = cc
at-least-writing mode NonCaching w h = cc

pub at-least-caching : (row mode : Mode) → caches mode ≡ true → is_at_least row mode ≡ true → caches row ≡ true
at-least-caching row NonCaching c h = cc
at-least-caching row Reading c h = h
at-least-caching NonCaching Writing c h = cc
at-least-caching Reading Writing c h = refl
at-least-caching Writing Writing c h = refl

pub at-least-more : (row wanted mode : Mode) → is_at_least row mode ≡ true → is_at_least (greater_mode row wanted) mode ≡ true
at-least-more row wanted NonCaching h = refl
at-least-more NonCaching wanted Reading h = cc
at-least-more NonCaching wanted Writing h = cc
at-least-more Reading wanted Reading h = step (is_writing wanted)
  where
    step : (b : Bool) → caches (if b then Writing else Reading) ≡ true
    step true = refl
    step false = refl
at-least-more Reading wanted Writing h = cc
at-least-more Writing wanted Reading h = refl
at-least-more Writing wanted Writing h = refl

pub greater-caches : (own wanted : Mode) → caches own ≡ true → caches (greater_mode own wanted) ≡ true
greater-caches own wanted c = at-least-more own wanted Reading c
