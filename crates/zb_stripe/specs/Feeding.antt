-- What an answer makes of a write.
use Rattle.std.specs.Prelude.{List, [], ◌∷◌}
use Rattle.zb_types.specs.declared.ids.ServerId.{ServerId}
use Rattle.zb_types.specs.declared.requests.Request.{Request}
use Rattle.zb_types.specs.declared.requests.Response.{Response}
use Rattle.zb_types.specs.declared.requests.Response.TheVariants as told
use Rattle.zb_types.specs.declared.requests.StoreFault.TheVariants as fault
use Rattle.zb_stripe.specs.declared.write_plan.Fed.{Fed}
use Rattle.zb_stripe.specs.declared.write_plan.Fed.TheVariants as fed

-- what is carried out comes to, where these requests are left
abbrev pub done_by : List (ServerId × Request) → Fed
done_by [] = fed.Done
done_by (asked ∷ rest) = fed.More

-- what an answer of a server comes to, where these requests are left behind its own: one that no write has is as if the
-- server were down
abbrev pub became : ServerId → List (ServerId × Request) → Response → Fed
became server rest told.Done = done_by rest
became server rest (told.Refused (fault.NoSlot free)) = fed.NoSpace server free
became server rest (told.Refused (fault.OldGeneration now)) = fed.Old now
became server rest (told.Refused fault.NoMemory) = fed.NoMemory
became server rest response = fed.Down server

-- what an answer to the first of the requests that are left comes to
abbrev pub fed_by : List (ServerId × Request) → Response → Fed
fed_by [] response = fed.Done
fed_by (asked ∷ rest) response = became asked.0 rest response

-- the requests that are left after an answer
abbrev pub left_after : List (ServerId × Request) → Response → List (ServerId × Request)
left_after [] response = []
left_after (asked ∷ rest) told.Done = rest
left_after (asked ∷ rest) response = asked ∷ rest
