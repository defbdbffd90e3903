-- `plain_referent` answers as the predefined lookup does (`refers_plain`).
use Rattle.entity.proofs.Referents.{refers_plain}
use Rattle.entity.proofs.plain_referent.Goals as goal

pub returns-in-Predefined : goal.returns-in-Predefined
returns-in-Predefined c =
    refers_plain c.args.name.now c.resolve_xml_entity.result c.resolve_xml_entity.ensures.by_index c.resolve_xml_entity.ensures.by_index_2 c.in-Predefined.is

pub returns-in-Text : goal.returns-in-Text
returns-in-Text c =
    refers_plain c.args.name.now c.resolve_xml_entity.result c.resolve_xml_entity.ensures.by_index c.resolve_xml_entity.ensures.by_index_2 c.in-Text.is

pub returns-in-External : goal.returns-in-External
returns-in-External c =
    refers_plain c.args.name.now c.resolve_xml_entity.result c.resolve_xml_entity.ensures.by_index c.resolve_xml_entity.ensures.by_index_2 c.in-External.is

pub returns-in-Unknown : goal.returns-in-Unknown
returns-in-Unknown c =
    refers_plain c.args.name.now c.resolve_xml_entity.result c.resolve_xml_entity.ensures.by_index c.resolve_xml_entity.ensures.by_index_2 c.in-Unknown.is
