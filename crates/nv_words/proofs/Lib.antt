mod Faults
mod Notices
mod Readings
